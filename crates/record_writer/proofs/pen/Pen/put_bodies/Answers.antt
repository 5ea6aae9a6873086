use Rattle.std.proofs.Common.{◌∙◌, refl, rules, ap, arith}
use Rattle.record_format.specs.Written.{body, bodies}
use Rattle.record_format.specs.Meaning.{item_of}
use Rattle.record_format.specs.Order.{left_of}
use Rattle.record_format.proofs.Writing.{writing_begins, writing_goes_on, room_for_next}
use Rattle.record_writer.proofs.pen.Pen.put_bodies.Goals as goal

pub loop-set-init : goal.loop-set-init
loop-set-init g c = (writing_begins (ap bodies (search rules)), (refl, refl))

pub put_body-requires : goal.put_body-requires
put_body-requires g c =
    let left = bodies (left_of g.R.NumberedSets.items c.next.new.self) in
    omega (arith, c.loop-set.invariant.1.1, room_for_next (body (item_of c.in-Some.set)) left (ap bodies c.in-Some.ensures.steps) c.requires c.loop-set.invariant.0)

pub loop-set-preserved : goal.loop-set-preserved
loop-set-preserved g c =
    let left = bodies (left_of g.R.NumberedSets.items c.next.new.self) in
    (writing_goes_on (body (item_of c.in-Some.set)) left (ap bodies c.in-Some.ensures.steps) c.requires c.loop-set.invariant.0 c.put_body.ensures.bytes, (c.put_body.ensures.same_buffer.0 ∙ c.loop-set.invariant.1.0, c.put_body.ensures.same_buffer.1 ∙ c.loop-set.invariant.1.1))
