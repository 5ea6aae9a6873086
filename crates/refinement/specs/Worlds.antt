-- The middleware's machine as the law has it: a middleware over a bank, and with it the plain board that the machine is.
use Rattle.std.specs.Prelude.{ℕ, zero, suc, Bool, false, cond, List, map, slice_index_or}
use Rattle.ledger.specs.declared.transaction.Transaction.{Transaction}
use Rattle.ledger.specs.declared.transaction.TransactionState.{TransactionState}
use Rattle.ledger.specs.declared.transaction.TransactionState.TheVariants.{Open, Pending, Committed, Aborted, GivenUp}
use Rattle.ledger.specs.Sets.{SetModel, no_set, is_applied}
use Rattle.machine.specs.Machine.{Machine}
use Rattle.law.specs.Plain.{Numbered}
use Rattle.law.specs.Opening.{PlainBoard}
use Rattle.law.specs.World.{Phase, Entry, World}
use Rattle.law.specs.Sound as law
use Rattle.law.specs.Sound.{Middle}
use Rattle.refinement.specs.Stores.{law_bank}

-- a state, by the law's name for it
abbrev pub phase_of : TransactionState → Phase
phase_of Open = Phase.live
phase_of (Pending n) = Phase.pending n
phase_of Committed = Phase.committed
phase_of Aborted = Phase.aborted
phase_of GivenUp = Phase.given_up

-- a transaction, with its place
abbrev pub entry_of : Transaction → Entry
entry_of x = record { home = x.home; s = x.s; place = x.place; phase = phase_of x.state }

-- a numbered write set, without its marks
abbrev pub numbered_of : SetModel → Numbered
numbered_of x = record { who = x.transaction; home = x.home; s = x.s; pairs = x.pairs }

-- number n is applied at k; there is no number 0
abbrev pub applied_of : List SetModel → ℕ → ℕ → Bool
applied_of us k zero = false
applied_of us k (suc n) = is_applied k (slice_index_or us n no_set)

-- all that the machine keeps, and the bank
abbrev pub world_of : Machine → World
world_of b =
    record {
      start = b.start;
      sets = map numbered_of b.sets;
      applied = applied_of b.sets;
      entries = map entry_of b.txns;
      bank = law_bank b.stores;
    }

-- opened or not
abbrev pub middle_of : Machine → Middle
middle_of b = cond b.opened (Middle.opened (world_of b)) (Middle.unopened (world_of b))

-- the plain board that a machine is: its replicas' boards are those of the stores, and an open transaction has the snapshot and the own writes of its place
abbrev pub plain_of : Machine → PlainBoard
plain_of b = law.plain_of (middle_of b)
