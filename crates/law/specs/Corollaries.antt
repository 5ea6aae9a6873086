-- What follows from the law, in the field's own terms.
use Rattle.std.specs.Prelude.{◌≡◌, ℕ, ◌<◌, ◌≤◌, ◌⊎◌, ◌↔◌, List, [], nat_le, slice_index_or}
use Rattle.tickets.specs.Boards.{Board, value}
use Rattle.law.specs.Clashes.{Clashing}
use Rattle.law.specs.History.{Answer, History}
use Rattle.law.specs.History.Answer.{told, aborts}
use Rattle.law.specs.Words.{Facts, facts, given, write_set, is_applied, snapshot_of_set, value_after}
use Rattle.law.specs.Law.{Clash, Verdict, Law}

-- The numbered transactions form a snapshot isolation schedule: nothing numbered between the snapshot of write set n and n itself clashes with it
abbrev pub SnapshotIsolation : Type 0
SnapshotIsolation =
    (start : Board) (K : ℕ) (h : History) (copies : List Board) → Law start K h copies → (n : ℕ) → 1 ≤ n → n ≤ given (facts h) →
    (m : ℕ) → snapshot_of_set (facts h) n < m → m < n → Clashing (write_set (facts h) m) (write_set (facts h) n) → ⊥

-- A verdict is an abort exactly where something clashes
abbrev pub AbortsExactly : Type 0
AbortsExactly =
    (h : Facts) (t : ℕ) (a : Answer) → Verdict h t a → ((n : ℕ) × (a ≡ told n)) ⊎ ((n : ℕ) × (a ≡ aborts n)) →
    ((n : ℕ) × (a ≡ aborts n)) ↔ ((m : ℕ) × Clash h t m)

-- Two replicas that applied the same numbers, in whatever order, have equal copies
abbrev pub SameApplied : Type 0
SameApplied =
    (start : Board) (K : ℕ) (h : History) (copies : List Board) → Law start K h copies → (k l : ℕ) → k < K → l < K →
    ((n : ℕ) → 1 ≤ n → n ≤ given (facts h) → is_applied (facts h) k n ≡ is_applied (facts h) l n) → slice_index_or copies k [] ≡ slice_index_or copies l []

-- A replica that applied exactly 1 to p holds the board after write sets 1 to p
abbrev pub WholeReplica : Type 0
WholeReplica =
    (start : Board) (K : ℕ) (h : History) (copies : List Board) → Law start K h copies → (k p : ℕ) → k < K → p ≤ given (facts h) →
    ((n : ℕ) → 1 ≤ n → n ≤ given (facts h) → is_applied (facts h) k n ≡ nat_le n p) → (j : ℕ) → j < 128 → value (slice_index_or copies k []) j ≡ value_after start (facts h) p j
