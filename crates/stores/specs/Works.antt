-- What the calls on a piece of work answer.
use Rattle.std.specs.Prelude.{ℕ, Ok, Err, Result}
use Rattle.stores.specs.declared.fault.StoreFault.{StoreFault}
use Rattle.stores.specs.declared.fault.StoreFault.TheVariants.{NoPlace, PlaceClosed, PlaceOpen, NoObject, NinthObject, Overtaken, Full}
use Rattle.stores.specs.declared.work.Work.{Work}
use Rattle.stores.specs.declared.work.Unfinished.{Unfinished}
use Rattle.stores.specs.declared.work.Unfinished.TheVariants.{Ended, Back}

abbrev pub place_of : Work → ℕ
place_of w = w.place

abbrev pub begun : ℕ → Result (Unit {0}) StoreFault → Result Work StoreFault
begun p (Ok u) = Ok (record { place = p })
begun p (Err e) = Err e

-- a store that is full leaves the place open, so the work comes back
abbrev pub refused : Work → StoreFault → Unfinished
refused w NoObject = Ended NoObject
refused w NoPlace = Ended NoPlace
refused w NinthObject = Ended NinthObject
refused w Overtaken = Ended Overtaken
refused w Full = Back w Full
refused w PlaceOpen = Ended PlaceOpen
refused w PlaceClosed = Ended PlaceClosed

abbrev pub ended : Work → Result (Unit {0}) StoreFault → Result (Unit {0}) Unfinished
ended w (Ok u) = Ok u
ended w (Err e) = Err (refused w e)
