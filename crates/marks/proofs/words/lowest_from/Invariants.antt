-- What is left of the walk gives the whole.
use Rattle.std.proofs.Common.{◌≡◌, ◌-◌, ◌*◌, length, max}
use Rattle.marks.specs.Marked.{marked_in, lowest_from}
use Rattle.marks.proofs.words.lowest_from.Given as goal

abbrev pub invariant-loop-i : goal.invariant-loop-i
invariant-loop-i l =
    lowest_from (marked_in l.words) l.object (64 * length l.words - l.object)
    ≡ lowest_from (marked_in l.words) (max l.object (64 * l.i)) (64 * length l.words - max l.object (64 * l.i))
