-- Transactions: the events that each state takes, and who is busy at a replica.
use Rattle.std.specs.Prelude.{ℕ, ◌-◌, Bool, true, false, ◌&&◌, List, is_some, Some, None, vec_items, Option, ◌==◌, slice_index_or}
use Rattle.std.specs.Option.{unwrap_or}
use Rattle.ledger.specs.declared.verdict.Verdict.{Verdict}
use Rattle.ledger.specs.declared.verdict.Verdict.TheVariants.{ReadOnly, Numbered, Clash}
use Rattle.ledger.specs.declared.transaction.TransactionState.{TransactionState}
use Rattle.ledger.specs.declared.transaction.TransactionState.TheVariants.{Open, Pending, Committed, Aborted, GivenUp}
use Rattle.ledger.specs.declared.transaction.Event.{Event}
use Rattle.ledger.specs.declared.transaction.Event.TheVariants.{Read, Write, Commit, GiveUp, Applied}
use Rattle.ledger.specs.declared.transaction.Transaction.{Transaction}
use Rattle.ledger.specs.declared.transactions.Transactions.{Transactions}
use Rattle.ledger.specs.Words.{tally}

-- the state that a verdict leads to
abbrev pub judged : Verdict → TransactionState
judged ReadOnly = Committed
judged (Numbered n) = Pending n
judged (Clash n) = Aborted

-- the state that an event leads to; none where it is not taken: an open transaction takes all but its application,
-- a pending one that alone, and an ended one nothing
abbrev pub next : TransactionState → Event → Option TransactionState
next Open Read = Some Open
next Open Write = Some Open
next Open (Commit v) = Some (judged v)
next Open GiveUp = Some GivenUp
next Open Applied = None
next (Pending n) Read = None
next (Pending n) Write = None
next (Pending n) (Commit v) = None
next (Pending n) GiveUp = None
next (Pending n) Applied = Some Committed
next Committed e = None
next Aborted e = None
next GivenUp e = None

abbrev pub takes : TransactionState → Event → Bool
takes q e = is_some (next q e)

-- a transaction after an event, which it takes or not
abbrev pub moved : Transaction → Event → Transaction
moved x e = record { home = x.home; place = x.place; s = x.s; state = unwrap_or (next x.state e) x.state }

-- the transactions that are held, from number 1 on
abbrev pub txns_of : Transactions → List Transaction
txns_of ts = vec_items ts.given.items

-- what stands past the last transaction; no call reaches it
abbrev pub no_transaction : Transaction
no_transaction = record { home = 0; place = 0; s = 0; state = GivenUp }

-- transaction t, from 1
abbrev pub nth_transaction : List Transaction → ℕ → Transaction
nth_transaction ts t = slice_index_or ts (t - 1) no_transaction

-- open or pending
abbrev pub is_busy : TransactionState → Bool
is_busy Open = true
is_busy (Pending n) = true
is_busy Committed = false
is_busy Aborted = false
is_busy GivenUp = false

-- open or pending, at home at k
abbrev pub busy_at : ℕ → Transaction → Bool
busy_at k x = x.home == k && is_busy x.state

-- how many are busy at home at k
abbrev pub busy_count : List Transaction → ℕ → ℕ
busy_count ts k = tally (busy_at k) ts
