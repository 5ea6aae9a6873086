-- The refusals of a store, by their numbers. None names a value.
use Rattle.std.specs.Prelude.{ℕ}
use Rattle.stores.specs.declared.fault.StoreFault.{StoreFault}
use Rattle.stores.specs.declared.fault.StoreFault.TheVariants.{NoPlace, PlaceClosed, PlaceOpen, NoObject, NinthObject, Overtaken, Full}

abbrev pub number_of : StoreFault → ℕ
number_of NoObject = 3
number_of NoPlace = 6
number_of NinthObject = 30
number_of Overtaken = 34
number_of Full = 35
number_of PlaceOpen = 36
number_of PlaceClosed = 37
