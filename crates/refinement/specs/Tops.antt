-- What a plain board holds is within the tops of its objects: the own writes of open transactions, and the numbered write sets.
use Rattle.std.specs.Prelude.{◌≡◌, ℕ, true, List, slice_index_or}
use Rattle.calls.specs.declared.call.Call.{Call}
use Rattle.record_format.specs.Items.{within_tops}
use Rattle.law.specs.Plain.{TransactionState, Plain, no_transaction, no_set}
use Rattle.law.specs.Plain.TransactionState.{live, pending, committed, aborted, given_up}
use Rattle.law.specs.Store.{Store}
use Rattle.law.specs.Opening.{PlainBoard, board_open, board_step}
use Rattle.law.specs.Opening.PlainBoard.{unopened, opened}

abbrev pub OwnWithin : TransactionState → Type 0
OwnWithin (live b u) = within_tops u ≡ true
OwnWithin (pending n) = Unit {0}
OwnWithin committed = Unit {0}
OwnWithin aborted = Unit {0}
OwnWithin given_up = Unit {0}

-- by the place of a transaction and of a write set, from 0
pub record Within (p : Plain) : Type 0 where
  pub own : (i : ℕ) → OwnWithin (slice_index_or p.transactions i no_transaction).state
  pub sets : (i : ℕ) → within_tops (slice_index_or p.sets i no_set).pairs ≡ true

abbrev pub BoardWithin : PlainBoard → Type 0
BoardWithin unopened = Unit {0}
BoardWithin (opened p) = Within p

-- a board that is not opened holds nothing; an opening, and every call, leaves what is held within the tops
abbrev pub EveryOpeningWithin : Type 0
EveryOpeningWithin = (bank : List Store) (b : PlainBoard) → BoardWithin b → BoardWithin (board_open bank b).1

abbrev pub EveryCallWithin : Type 0
EveryCallWithin = (c : Call) (b : PlainBoard) → BoardWithin b → BoardWithin (board_step c b).1
