-- An opened middleware over its bank of stores: it keeps no board but the starting one, and no writes but the numbered ones.
use Rattle.std.specs.Prelude.{◌≡◌, ℕ, suc, ◌-◌, ◌<◌, ◌≤◌, Bool, true, false, cond, ◌&&◌, List, [], ◌∷◌, ◌++◌, map, length, Option, ◌==◌, slice_index_or, slice_set}
use Rattle.tickets.specs.Boards.{Board}
use Rattle.tickets.specs.WriteSets.{Pairs}
use Rattle.law.specs.Numbers.{count, tally}
use Rattle.law.specs.Plain.{TransactionState, Transaction, Numbered, Plain}
use Rattle.law.specs.Applications.{marked}
use Rattle.law.specs.Store.{Place, Store, is_open, place, snapshot_of, own_of}
use Rattle.law.specs.Opening.{store_at}

-- the states again, without what a place holds
pub data Phase : Type 0 where
  live : Phase
  pending : ℕ → Phase
  committed : Phase
  aborted : Phase
  given_up : Phase

-- a transaction as the middleware keeps it: its place is one of its home's store
pub record Entry : Type 0 where
  pub home : ℕ
  pub s : ℕ
  pub place : ℕ
  pub phase : Phase

-- what the middleware keeps, and the bank that it owns
pub record World : Type 0 where
  pub start : Board
  pub sets : List Numbered
  pub applied : ℕ → ℕ → Bool
  pub entries : List Entry
  pub bank : List Store

abbrev pub no_entry : Entry
no_entry = record { home = 0; s = 0; place = 0; phase = Phase.given_up }

-- transaction t
abbrev pub entry : World → ℕ → Entry
entry w t = slice_index_or w.entries (t - 1) no_entry

-- the store of t's home, and t's place there
abbrev pub home_of : World → ℕ → Store
home_of w t = store_at w.bank (entry w t).home

abbrev pub place_of : World → ℕ → ℕ
place_of w t = (entry w t).place

abbrev pub board_of : Store → Board
board_of σ = σ.board

-- The plain board of a world: the copies are the stores' boards, and an open transaction has the snapshot and the own writes of its place
abbrev pub state_of : Phase → Option Place → TransactionState
state_of Phase.live o = TransactionState.live (snapshot_of o) (own_of o)
state_of (Phase.pending n) o = TransactionState.pending n
state_of Phase.committed o = TransactionState.committed
state_of Phase.aborted o = TransactionState.aborted
state_of Phase.given_up o = TransactionState.given_up

abbrev pub transaction_of : List Store → Entry → Transaction
transaction_of bank x = record { home = x.home; s = x.s; state = state_of x.phase (place (store_at bank x.home) x.place) }

abbrev pub world_plain : World → Plain
world_plain w = record { start = w.start; sets = w.sets; boards = map board_of w.bank; applied = w.applied; transactions = map (transaction_of w.bank) w.entries }

-- the open or pending transactions at home at k
abbrev pub is_working : Phase → Bool
is_working Phase.live = true
is_working (Phase.pending n) = true
is_working Phase.committed = false
is_working Phase.aborted = false
is_working Phase.given_up = false

abbrev pub working_at : ℕ → Entry → Bool
working_at k x = x.home == k && is_working x.phase

abbrev pub working : ℕ → List Entry → ℕ
working k T = tally (working_at k) T

abbrev pub in_phase : Phase → Entry → Entry
in_phase e x = record { home = x.home; s = x.s; place = x.place; phase = e }

-- another bank, or another store σ of the replica k
abbrev pub with_bank : World → List Store → World
with_bank w bank = record { start = w.start; sets = w.sets; applied = w.applied; entries = w.entries; bank = bank }

abbrev pub with_store : World → ℕ → Store → World
with_store w k σ = with_bank w (slice_set w.bank k σ)

-- t comes to the phase e, and its home's store to σ
abbrev pub with_entry : World → ℕ → Phase → Store → World
with_entry w t e σ = record { start = w.start; sets = w.sets; applied = w.applied; entries = slice_set w.entries (t - 1) (in_phase e (entry w t)); bank = slice_set w.bank (entry w t).home σ }

-- the own writes u of t get the next number
abbrev pub with_number : World → ℕ → Pairs → World
with_number w t u =
    record {
      start = w.start;
      sets = w.sets ++ record { who = t; home = (entry w t).home; s = (entry w t).s; pairs = u } ∷ [];
      applied = w.applied;
      entries = slice_set w.entries (t - 1) (in_phase (Phase.pending (suc (length w.sets))) (entry w t));
      bank = w.bank;
    }

-- n is applied at k, whose store comes to σ, and the transactions to T
abbrev pub with_applied : World → ℕ → ℕ → List Entry → Store → World
with_applied w k n T σ = record { start = w.start; sets = w.sets; applied = marked k n w.applied; entries = T; bank = slice_set w.bank k σ }

-- Which place is taken is free. A way to pick takes which places are open; of sixteen or more, fewer than sixteen of them open, it picks one that is not
abbrev pub Picks : (List Bool → ℕ) → Type 0
Picks pick = (l : List Bool) → 16 ≤ length l → tally (λ b. b) l < 16 → (pick l < length l) × (slice_index_or l (pick l) true ≡ false)

-- one way: the first place that is not open
abbrev pub first_shut : List Bool → ℕ
first_shut [] = 0
first_shut (b ∷ l) = cond b (suc (first_shut l)) 0

-- the place that is picked of a store
abbrev pub picked : (List Bool → ℕ) → Store → ℕ
picked pick σ = pick (map is_open σ.places)

-- a transaction begins at k, whose store comes to σ
abbrev pub with_begin : (List Bool → ℕ) → World → ℕ → Store → World
with_begin pick w k σ =
    record {
      start = w.start;
      sets = w.sets;
      applied = w.applied;
      entries = w.entries ++ record { home = k; s = count (w.applied k) (length w.sets); place = picked pick (store_at w.bank k); phase = Phase.live } ∷ [];
      bank = slice_set w.bank k σ;
    }
