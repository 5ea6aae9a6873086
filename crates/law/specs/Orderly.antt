-- What every plain board keeps from its opening on.
use Rattle.std.specs.Prelude.{◌≡◌, ℕ, ◌-◌, ◌<◌, ◌≤◌, Bool, true, false, List, length, slice_index_or}
use Rattle.tickets.specs.WriteSets.{Pairs, rising, is_write_set}
use Rattle.law.specs.Clashes.{clash}
use Rattle.law.specs.Plain.{TransactionState, Transaction, Numbered, Plain, no_transaction, transaction, numbered, pairs, is_busy, busy}
use Rattle.law.specs.Plain.TransactionState.{live, pending, committed, aborted, given_up}

-- own writes: at most eight, their objects rising below 128
pub record Fine (u : Pairs) : Type 0 where
  pub rising : rising 0 u ≡ true
  pub few : length u ≤ 8

abbrev pub OwnFine : TransactionState → Type 0
OwnFine (live b u) = Fine u
OwnFine (pending n) = Unit {0}
OwnFine committed = Unit {0}
OwnFine aborted = Unit {0}
OwnFine given_up = Unit {0}

-- a transaction, among K replicas and G numbered write sets of which A says what is applied where: what it saw is applied at its home
pub record TransactionFine (K G : ℕ) (A : ℕ → ℕ → Bool) (x : Transaction) : Type 0 where
  pub home : x.home < K
  pub saw : x.s ≤ G
  pub front : is_busy x.state ≡ true → (m : ℕ) → 1 ≤ m → m ≤ x.s → A x.home m ≡ true
  pub own : OwnFine x.state

-- the transaction of write set n, until that is applied at home
pub record Pending (T : List Transaction) (y : Numbered) (n : ℕ) : Type 0 where
  pub least : 1 ≤ y.who
  pub most : y.who ≤ length T
  pub is : slice_index_or T (y.who - 1) no_transaction ≡ record { home = y.home; s = y.s; state = pending n }

-- write set n: nothing between its snapshot number and its own clashes with it
pub record SetFine (K : ℕ) (N : List Numbered) (A : ℕ → ℕ → Bool) (T : List Transaction) (y : Numbered) (n : ℕ) : Type 0 where
  pub home : y.home < K
  pub fits : is_write_set y.pairs ≡ true
  pub below : y.s < n
  pub valid : (m : ℕ) → y.s < m → m < n → clash (pairs N m) y.pairs ≡ false
  pub waits : A y.home n ≡ false → Pending T y n

pub record Orderly (p : Plain) : Type 0 where
  pub few : length p.sets ≤ 256
  pub light : (k : ℕ) → busy k p.transactions ≤ 15
  -- what is applied has a number
  pub least : (k n : ℕ) → p.applied k n ≡ true → 1 ≤ n
  pub most : (k n : ℕ) → p.applied k n ≡ true → n ≤ length p.sets
  -- a lower number that clashes is applied first
  pub closed : (k n m : ℕ) → 1 ≤ n → n < m → p.applied k m ≡ true → clash (pairs p.sets n) (pairs p.sets m) ≡ true → p.applied k n ≡ true
  pub sets : (n : ℕ) → 1 ≤ n → n ≤ length p.sets → SetFine (length p.boards) p.sets p.applied p.transactions (numbered p.sets n) n
  pub transactions : (t : ℕ) → 1 ≤ t → t ≤ length p.transactions → TransactionFine (length p.boards) (length p.sets) p.applied (transaction p t)
