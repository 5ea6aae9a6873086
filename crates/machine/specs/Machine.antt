-- What the middleware holds, over what its stores mean, and the checks that its calls begin with.
use Rattle.std.specs.Prelude.{ℕ, ◌-◌, Bool, cond, List, length, Ok, Err, Result, nat_lt, slice_set}
use Rattle.tickets.specs.Boards.{Board}
use Rattle.stores.specs.Model.{StoreModel}
use Rattle.banks.specs.declared.fault.BankFault.{BankFault}
use Rattle.banks.specs.Model.{told_count}
use Rattle.ledger.specs.declared.transaction.Event.{Event}
use Rattle.ledger.specs.declared.transaction.Transaction.{Transaction}
use Rattle.ledger.specs.Words.{up_to}
use Rattle.errands.specs.Outcomes.{Outcome}
use Rattle.ledger.specs.Transactions.{takes, moved, nth_transaction}
use Rattle.ledger.specs.Sets.{SetModel, nth_set}
use Rattle.errands.specs.Replay.{AtBank}
use Rattle.machine.specs.declared.reason.Reason.{Reason}
use Rattle.machine.specs.declared.reason.Reason.TheVariants.{NoReplica, NoTransaction, NoObject, NoWriteSet, NotOpened, TransactionNotOpen, Store}

-- transactions and numbered write sets count from 1; the starting board means nothing before the opening
pub record Machine : Type 0 where
  pub opened : Bool
  pub start : Board
  pub stores : List StoreModel
  pub txns : List Transaction
  pub sets : List SetModel

-- a call's answer, and the machine that it leaves
abbrev pub Came : Type 0 → Type 0
Came A = Outcome A Reason Machine

abbrev pub with_stores : Machine → List StoreModel → Machine
with_stores b ms = record { opened = b.opened; start = b.start; stores = ms; txns = b.txns; sets = b.sets }

abbrev pub with_txns : Machine → List Transaction → Machine
with_txns b ts = record { opened = b.opened; start = b.start; stores = b.stores; txns = ts; sets = b.sets }

abbrev pub with_sets : Machine → List SetModel → Machine
with_sets b us = record { opened = b.opened; start = b.start; stores = b.stores; txns = b.txns; sets = us }

-- transaction t after an event, which it takes or not
abbrev pub told : Machine → ℕ → Event → Machine
told b t e = with_txns b (slice_set b.txns (t - 1) (moved (nth_transaction b.txns t) e))

-- ---- answers

-- what comes after, where nothing is refused
abbrev pub bind : {A C : Type 0} → Result A Reason → (A → Result C Reason) → Result C Reason
bind (Ok a) f = f a
bind (Err e) f = Err e

-- a bank's answer: its fault is a store's
abbrev pub raised : {A : Type 0} → Result A BankFault → Result A Reason
raised (Ok x) = Ok x
raised (Err e) = Err (Store e)

-- what came of a call of the bank
abbrev pub through : {A : Type 0} → Machine → AtBank A → Came A
through b o = record { answer = raised o.answer; after = with_stores b o.after }

-- ---- the checks that calls begin with

-- 20
abbrev pub if_opened : {A : Type 0} → Machine → Result A Reason → Result A Reason
if_opened b r = cond b.opened r (Err NotOpened)

-- 20, 1
abbrev pub replica_at : Machine → ℕ → Result ℕ Reason
replica_at b k = if_opened b (cond (nat_lt k (told_count b.stores)) (Ok k) (Err NoReplica))

-- 20, 2
abbrev pub transaction_at : Machine → ℕ → Result Transaction Reason
transaction_at b t = if_opened b (cond (up_to (length b.txns) t) (Ok (nth_transaction b.txns t)) (Err NoTransaction))

-- 29
abbrev pub if_taken : Event → Transaction → Result Transaction Reason
if_taken e x = cond (takes x.state e) (Ok x) (Err TransactionNotOpen)

-- 20, 2, 29: transaction t, where it takes the event
abbrev pub taking : Machine → ℕ → Event → Result Transaction Reason
taking b t e = bind (transaction_at b t) (if_taken e)

-- 3
abbrev pub object_at : ℕ → Result ℕ Reason
object_at j = cond (nat_lt j 128) (Ok j) (Err NoObject)

-- 4
abbrev pub set_at : Machine → ℕ → Result SetModel Reason
set_at b n = cond (up_to (length b.sets) n) (Ok (nth_set b.sets n)) (Err NoWriteSet)
