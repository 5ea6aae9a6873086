use Rattle.std.proofs.Common.{◌≡◌, ◌-◌, length, take}
use Rattle.lines.specs.Reading.{numbers_in}
use Rattle.lines.specs.Tokens.{left_of}
use Rattle.lines.proofs.Numbers.{after}
use Rattle.lines.proofs.tokens.Tokens.numbers.Given as goal

abbrev pub invariant-loop-n : goal.invariant-loop-n
invariant-loop-n g l =
    (length l.n-items ≡ g.row.N)
    × (after (take l.n-index l.n-items) (numbers_in (g.row.N - l.n-index) (left_of l.self)) ≡ numbers_in g.row.N (left_of l.initial.self))
