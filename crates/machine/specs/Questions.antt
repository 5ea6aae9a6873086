-- What the questions answer. They change nothing.
use Rattle.std.specs.Prelude.{ℕ, length, Ok, Result}
use Rattle.tickets.specs.Boards.{Board}
use Rattle.stores.specs.Model.{value_answer}
use Rattle.banks.specs.Model.{asked}
use Rattle.ledger.specs.declared.progress.Progress.{Progress}
use Rattle.ledger.specs.declared.transaction.TransactionState.{TransactionState}
use Rattle.ledger.specs.Sets.{SetModel, progress_at}
use Rattle.machine.specs.declared.reason.Reason.{Reason}
use Rattle.machine.specs.Machine.{Machine, bind, raised, if_opened, replica_at, transaction_at, object_at, set_at}

-- the current value of object j in the store of replica k: 20, 1, 3
abbrev pub value_told : Machine → ℕ → ℕ → Result ℕ Reason
value_told b k j = bind (replica_at b k) (λ h. bind (object_at j) (λ o. raised (asked b.stores h (λ m. value_answer m o))))

-- the state of transaction t, and its number s: 20, 2
abbrev pub state_told : Machine → ℕ → Result (TransactionState × ℕ) Reason
state_told b t = bind (transaction_at b t) (λ x. Ok (x.state, x.s))

-- write set n: 20, 4
abbrev pub set_told : Machine → ℕ → Result SetModel Reason
set_told b n = if_opened b (set_at b n)

-- how many numbers are applied at replica k, and whether without holes: 20, 1
abbrev pub progress_told : Machine → ℕ → Result Progress Reason
progress_told b k = bind (replica_at b k) (λ h. Ok (progress_at b.sets h))

-- how many write sets have numbers: 20
abbrev pub numbers_told : Machine → Result ℕ Reason
numbers_told b = if_opened b (Ok (length b.sets))

-- the starting board: 20
abbrev pub start_told : Machine → Result Board Reason
start_told b = if_opened b (Ok b.start)
