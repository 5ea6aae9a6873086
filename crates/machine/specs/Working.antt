-- What read, write and give-up answer and leave.
use Rattle.std.specs.Prelude.{ℕ, cond, Ok, Err, Result, nat_le}
use Rattle.tickets.specs.Boards.{top}
use Rattle.stores.specs.declared.fault.StoreFault.{StoreFault}
use Rattle.stores.specs.declared.fault.StoreFault.TheVariants as store
use Rattle.stores.specs.Model.{read_answer}
use Rattle.banks.specs.declared.fault.BankFault.{BankFault}
use Rattle.banks.specs.declared.fault.BankFault.TheVariants as bank
use Rattle.banks.specs.Model.{asked}
use Rattle.ledger.specs.declared.transaction.Transaction.{Transaction}
use Rattle.ledger.specs.declared.transaction.Event.TheVariants.{Read, Write, GiveUp}
use Rattle.errands.specs.Outcomes.{done, look, step}
use Rattle.errands.specs.Replay.{AtBank, write_at, abort_at}
use Rattle.machine.specs.declared.reason.Reason.{Reason}
use Rattle.machine.specs.declared.reason.Reason.TheVariants.{AboveTop, NinthObject, Store}
use Rattle.machine.specs.Machine.{Machine, Came, with_stores, told, bind, raised, through, taking, object_at}

-- ---- read

-- what transaction x reads of object j
abbrev pub read_by : Machine → Transaction → ℕ → Result ℕ Reason
read_by b x j = raised (asked b.stores x.home (λ m. read_answer m x.place j))

-- 20, 2, 29, 3; nothing changes
abbrev pub reading : Machine → ℕ → ℕ → Result ℕ Reason
reading b t j = bind (taking b t Read) (λ x. bind (object_at j) (read_by b x))

-- ---- write

-- 5
abbrev pub value_at : ℕ → ℕ → Result ℕ Reason
value_at j v = cond (nat_le v (top j)) (Ok v) (Err AboveTop)

-- 30 is the store's to find
abbrev pub write_fault_at : ℕ → StoreFault → Reason
write_fault_at k store.NinthObject = NinthObject
write_fault_at k store.NoObject = Store (bank.At k store.NoObject)
write_fault_at k store.NoPlace = Store (bank.At k store.NoPlace)
write_fault_at k store.Overtaken = Store (bank.At k store.Overtaken)
write_fault_at k store.Full = Store (bank.At k store.Full)
write_fault_at k store.PlaceOpen = Store (bank.At k store.PlaceOpen)
write_fault_at k store.PlaceClosed = Store (bank.At k store.PlaceClosed)

abbrev pub write_fault : BankFault → Reason
write_fault (bank.NoReplica k) = Store (bank.NoReplica k)
write_fault (bank.At k e) = write_fault_at k e

abbrev pub write_raised : Result (Unit {0}) BankFault → Result (Unit {0}) Reason
write_raised (Ok u) = Ok u
write_raised (Err e) = Err (write_fault e)

-- 20, 2, 29, 3, 5
abbrev pub write_checks : Machine → ℕ → ℕ → ℕ → Result Transaction Reason
write_checks b t j v = bind (taking b t Write) (λ x. bind (object_at j) (λ _. bind (value_at j v) (λ _. Ok x)))

abbrev pub written : Machine → AtBank (Unit {0}) → Came (Unit {0})
written b o = record { answer = write_raised o.answer; after = with_stores b o.after }

-- 20, 2, 29, 3, 5, 30
abbrev pub writing : Machine → ℕ → ℕ → ℕ → Came (Unit {0})
writing b t j v = look (write_checks b t j v) b (λ x. written b (write_at x.home x.place (j, v) b.stores))

-- ---- give-up

-- 20, 2, 29
abbrev pub giving_up : Machine → ℕ → Came (Unit {0})
giving_up b t =
    look (taking b t GiveUp) b (λ x.
    step (through b (abort_at x.home x.place b.stores)) (λ _ b'.
    done tt (told b' t GiveUp)))
