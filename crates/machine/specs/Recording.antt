-- What writing the run record answers, and what it leaves in the buffer. The machine stays as it is.
use Rattle.std.specs.Prelude.{ℕ, cond, List, Ok, Err, Result}
use Rattle.record_format.specs.Calls.{write_result, write_bytes}
use Rattle.record_format.specs.declared.fault.RecordFault.{RecordFault}
use Rattle.ledger.specs.Records.{items_of_sets}
use Rattle.machine.specs.declared.reason.Reason.{Reason}
use Rattle.machine.specs.declared.reason.Reason.TheVariants.{Record}
use Rattle.machine.specs.Machine.{Machine, if_opened}

-- a record's fault is carried whole
abbrev pub carried : {A : Type 0} → Result A RecordFault → Result A Reason
carried (Ok x) = Ok x
carried (Err e) = Err (Record e)

-- the length of the record of the numbered write sets: 20, 9
abbrev pub recording : Machine → ℕ → Result ℕ Reason
recording b room = if_opened b (carried (write_result (items_of_sets b.sets) room))

-- the record stands at the front of the buffer; a refusal leaves every byte
abbrev pub recorded : Machine → List ℕ → List ℕ
recorded b bytes = cond b.opened (write_bytes (items_of_sets b.sets) bytes) bytes
