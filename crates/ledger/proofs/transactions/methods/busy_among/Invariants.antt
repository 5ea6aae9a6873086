use Rattle.std.proofs.Common.{◌≡◌, ◌+◌, ◌≤◌, drop}
use Rattle.ledger.specs.Words.{tally}
use Rattle.ledger.specs.Transactions.{busy_at}
use Rattle.ledger.proofs.transactions.methods.busy_among.Given as goal

-- those counted and those left give the whole
abbrev pub invariant-loop-x : goal.invariant-loop-x
invariant-loop-x l = (l.busy + tally (busy_at l.replica) (drop l.x-index l.txns) ≡ tally (busy_at l.replica) l.txns) × (l.busy ≤ l.x-index)
