use Rattle.std.proofs.Common.{◌≡◌, ◌≤◌, ◌-◌, length}
use Rattle.record_format.specs.Reading.{decoded, count_of}
use Rattle.record_format.proofs.Walk.{rest, tally}
use Rattle.record_reader.proofs.walk.walk.Given as goal

abbrev pub invariant-loop-n : goal.invariant-loop-n
invariant-loop-n l =
    (l.at ≤ length l.bytes) × (l.n - 1 ≤ l.count) × (tally (l.n - 1) (rest l.bytes l.count (l.n - 1) l.at) ≡ count_of (decoded l.bytes))
