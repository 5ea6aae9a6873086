use Rattle.record_format.specs.Written.{bodies}
use Rattle.record_format.specs.Order.{left_of}
use Rattle.record_format.proofs.Writing.{Writing}
use Rattle.record_writer.specs.Pens.{SameBuffer}
use Rattle.record_writer.proofs.pen.Pen.put_bodies.Given as goal

abbrev pub invariant-loop-set : goal.invariant-loop-set
invariant-loop-set g l =
    Writing l.initial.self.buffer.now l.initial.self.at (bodies (g.R.NumberedSets.items l.run)) (bodies (left_of g.R.NumberedSets.items l.set-iterator)) l.self.buffer.now l.self.at
    × SameBuffer l.initial.self l.self
