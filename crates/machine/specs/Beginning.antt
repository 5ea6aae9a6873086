-- What begin answers and leaves.
use Rattle.std.specs.Prelude.{ℕ, ◌+◌, cond, [], ◌∷◌, ◌++◌, length, Ok, Err, Result, nat_lt}
use Rattle.ledger.specs.declared.progress.Progress.{Progress}
use Rattle.ledger.specs.declared.transaction.Transaction.{Transaction}
use Rattle.ledger.specs.declared.transaction.TransactionState.TheVariants.{Open}
use Rattle.errands.specs.Outcomes.{done, look, step}
use Rattle.ledger.specs.Transactions.{busy_count}
use Rattle.ledger.specs.Sets.{progress_at}
use Rattle.errands.specs.Places.{vacant}
use Rattle.errands.specs.Replay.{begin_at}
use Rattle.machine.specs.declared.reason.Reason.{Reason}
use Rattle.machine.specs.declared.reason.Reason.TheVariants.{Holes, Busy, TransactionsGiven}
use Rattle.machine.specs.Machine.{Machine, Came, with_txns, bind, through, replica_at}

-- 26
abbrev pub if_whole : Progress → Result ℕ Reason
if_whole q = cond q.whole (Ok q.applied) (Err Holes)

-- 26: the number up to which replica k has seen the write sets
abbrev pub snapshot_at : Machine → ℕ → Result ℕ Reason
snapshot_at b k = if_whole (progress_at b.sets k)

-- 27, 28
abbrev pub room_at : Machine → ℕ → Result (Unit {0}) Reason
room_at b k = cond (nat_lt (busy_count b.txns k) 15) (cond (nat_lt (length b.txns) 512) (Ok tt) (Err TransactionsGiven)) (Err Busy)

-- 20, 1, 26, 27, 28: the transaction that is to begin
abbrev pub starting : Machine → ℕ → Result Transaction Reason
starting b k =
    bind (replica_at b k) (λ h. bind (snapshot_at b h) (λ s. bind (room_at b h) (λ _.
    Ok (record { home = h; place = vacant b.stores h; s = s; state = Open }))))

-- the transaction gets the next number, from 1
abbrev pub beginning : Machine → ℕ → Came ℕ
beginning b k =
    look (starting b k) b (λ x.
    step (through b (begin_at x.home x.place b.stores)) (λ _ b'.
    done (length b'.txns + 1) (with_txns b' (b'.txns ++ x ∷ []))))
