use Rattle.std.proofs.Common.{refl, ◌≡◌, ◌+◌, ◌*◌, ◌++◌, length, ap, ◌∙◌, rules, arith}
use Rattle.std.proofs.lemmas.List.{length-append}
use Rattle.record_format.specs.Written.{entry, contents, bodies, body, first_body}
use Rattle.record_format.specs.Meaning.{item_of}
use Rattle.record_format.specs.Order.{left_of}
use Rattle.record_format.proofs.Writing.{wrote_same, writing_begins, writing_goes_on, room_for_next}
use Rattle.record_format.proofs.Lengths.{length-body, length-contents}
use Rattle.record_format.proofs.Sets.{bytes_of_entry}
use Rattle.record_writer.proofs.pen.Pen.put_contents.Goals as goal

pub loop-set-init : goal.loop-set-init
loop-set-init g c =
    let count = c.len-count.ensures.value ∙ ap length c.in_order-sets.ensures in
    let all : left_of g.R.NumberedSets.items c.into_iter-set-iterator.result ≡ g.R.NumberedSets.items c.args.run.now = search rules in
    (writing_begins (λ i. contents (first_body (count i)) (all i)), (refl, refl), (λ i. first_body (count i) + length (bodies (all i))))

pub put-requires : goal.put-requires
put-requires g c =
    let its = g.R.NumberedSets.items c.args.run.now in
    let next = ap (contents c.loop-set.offset) c.in-Some.ensures.steps in
    let all = length-contents (first_body (length its)) its in
    omega (arith, c.loop-set.invariant.1.1, room_for_next (entry c.loop-set.offset (item_of c.in-Some.set)) _ next (omega (arith, all, c.requires.run_in_bounds)) c.loop-set.invariant.0)

pub loop-set-preserved : goal.loop-set-preserved
loop-set-preserved g c =
    let its = g.R.NumberedSets.items c.args.run.now in
    let x = c.in-Some.set in
    let rest = left_of g.R.NumberedSets.items c.next.new.self in
    let at = c.loop-set.offset in
    let further : at + length (body (item_of x)) ≡ at + (2 + 5 * c.len-pairs.result) = omega (arith, length-body (item_of x), c.len-pairs.ensures.answer) in
    let next = ap (contents at) c.in-Some.ensures.steps ∙ ap (λ k. entry at (item_of x) ++ contents k rest) further in
    let all = length-contents (first_body (length its)) its in
    let bytes = bytes_of_entry x at c.len-pairs.result c.to_be_bytes.result c.len-pairs.ensures.answer c.to_be_bytes.ensures in (
      writing_goes_on (entry at (item_of x)) (contents (at + (2 + 5 * c.len-pairs.result)) rest) next (omega (arith, all, c.requires.run_in_bounds)) c.loop-set.invariant.0 (wrote_same bytes c.put.ensures.bytes),
      (c.put.ensures.same_buffer.0 ∙ c.loop-set.invariant.1.0, c.put.ensures.same_buffer.1 ∙ c.loop-set.invariant.1.1),
      omega (arith, further, c.loop-set.invariant.2, ap (λ l. length (bodies l)) c.in-Some.ensures.steps, length-append (body (item_of x)) (bodies rest)),
    )
