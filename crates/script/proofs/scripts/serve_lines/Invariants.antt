use Rattle.lines.specs.Scripts.{lines_of, lines_left}
use Rattle.middleware.specs.Meaning.{held}
use Rattle.script.proofs.SoFar.{SoFar}
use Rattle.script.proofs.scripts.serve_lines.Given as goal

abbrev pub invariant-loop-line : goal.invariant-loop-line
invariant-loop-line g l =
    (goal.iterator-loop-line g).can_next l.line-iterator × (goal.iterator-loop-line g).is_finite l.line-iterator
    × SoFar (lines_of l.initial.script) (lines_left l.line-iterator.a) (held g.B.Bank.stores l.initial.board) l.initial.buffer l.line-iterator.b.start l.at l.buffer (held g.B.Bank.stores l.board)
