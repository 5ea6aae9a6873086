use Rattle.lines.proofs.Numerals.{Read}
use Rattle.lines.proofs.numeral.number.Given as goal

abbrev pub invariant-loop-b : goal.invariant-loop-b
invariant-loop-b l = Read l.bytes l.b-index l.value
