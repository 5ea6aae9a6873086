-- What the calls on a piece of work at a bank answer.
use Rattle.std.specs.Prelude.{ℕ, Ok, Err, Result}
use Rattle.stores.specs.declared.fault.StoreFault.{StoreFault}
use Rattle.stores.specs.declared.fault.StoreFault.TheVariants.{NoObject, NoPlace, NinthObject, Overtaken, Full, PlaceOpen, PlaceClosed}
use Rattle.banks.specs.declared.fault.BankFault.{BankFault}
use Rattle.banks.specs.declared.fault.BankFault.TheVariants.{NoReplica, At}
use Rattle.banks.specs.declared.work.Work.{Work}
use Rattle.banks.specs.declared.work.Unfinished.{Unfinished}
use Rattle.banks.specs.declared.work.Unfinished.TheVariants.{Ended, Back}

abbrev pub replica_of : Work → ℕ
replica_of w = w.replica

abbrev pub place_of : Work → ℕ
place_of w = w.place

abbrev pub begun : ℕ → ℕ → Result (Unit {0}) BankFault → Result Work BankFault
begun k p (Ok u) = Ok (record { replica = k; place = p })
begun k p (Err e) = Err e

-- a store that is full leaves the place open, so the work comes back
abbrev pub refused_by : Work → ℕ → StoreFault → Unfinished
refused_by w k NoObject = Ended (At k NoObject)
refused_by w k NoPlace = Ended (At k NoPlace)
refused_by w k NinthObject = Ended (At k NinthObject)
refused_by w k Overtaken = Ended (At k Overtaken)
refused_by w k Full = Back w (At k Full)
refused_by w k PlaceOpen = Ended (At k PlaceOpen)
refused_by w k PlaceClosed = Ended (At k PlaceClosed)

abbrev pub refused : Work → BankFault → Unfinished
refused w (NoReplica k) = Ended (NoReplica k)
refused w (At k e) = refused_by w k e

abbrev pub ended : Work → Result (Unit {0}) BankFault → Result (Unit {0}) Unfinished
ended w (Ok u) = Ok u
ended w (Err e) = Err (refused w e)
