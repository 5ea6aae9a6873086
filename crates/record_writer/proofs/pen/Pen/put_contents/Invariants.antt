use Rattle.std.proofs.Common.{◌≡◌, ◌+◌, length}
use Rattle.record_format.specs.Written.{contents, bodies, first_body}
use Rattle.record_format.specs.Order.{left_of}
use Rattle.record_format.proofs.Writing.{Writing}
use Rattle.record_writer.specs.Pens.{SameBuffer}
use Rattle.record_writer.proofs.pen.Pen.put_contents.Given as goal

abbrev pub invariant-loop-set : goal.invariant-loop-set
invariant-loop-set g l =
    let its = g.R.NumberedSets.items l.run in
    let left = left_of g.R.NumberedSets.items l.set-iterator in
    Writing l.initial.self.buffer.now l.initial.self.at (contents (first_body (length its)) its) (contents l.offset left) l.self.buffer.now l.self.at
    × SameBuffer l.initial.self l.self
    × (l.offset + length (bodies left) ≡ first_body (length its) + length (bodies its))
