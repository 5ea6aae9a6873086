-- The words passed are joined, and the others are as they were.
use Rattle.std.proofs.Common.{◌≡◌, ℕ, ◌<◌, ◌≤◌, get_or}
use lib.Bits.{bit_or}
use Rattle.marks.proofs.words.join.Given as goal

abbrev pub invariant-loop-i : goal.invariant-loop-i
invariant-loop-i l =
    ((q : ℕ) → q < l.i → get_or l.words q 0 ≡ bit_or (get_or l.initial.words q 0) (get_or l.other q 0)) × ((q : ℕ) → l.i ≤ q → get_or l.words q 0 ≡ get_or l.initial.words q 0)
