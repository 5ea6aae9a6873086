use Rattle.record_format.specs.Order.{left_of}
use Rattle.record_format.proofs.Sets.{Sized}
use Rattle.record_writer.proofs.runs.size.Given as goal

abbrev pub invariant-loop-set : goal.invariant-loop-set
invariant-loop-set g l = Sized (g.R.NumberedSets.items l.run) (left_of g.R.NumberedSets.items l.set-iterator.a) l.set-iterator.b.start l.needed
