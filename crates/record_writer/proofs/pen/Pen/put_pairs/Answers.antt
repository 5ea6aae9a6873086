use Rattle.std.proofs.Common.{◌+◌, ◌*◌, length, get_or, map, drop, refl, ap, ◌∙◌, arith}
use Rattle.std.specs.List.{flat_map}
use Rattle.tickets.specs.Meaning.{pair_of}
use Rattle.tickets.specs.declared.pair.Pair.{Pair}
use Rattle.record_format.specs.Written.{pair_bytes}
use Rattle.record_format.proofs.Lengths.{length-pair_bytes}
use Rattle.record_format.proofs.Sets.{pairs_left, bytes_of_pair}
use Rattle.record_format.proofs.Writing.{wrote_same, writing_begins, writing_goes_on, room_for_next}
use Rattle.record_writer.proofs.pen.Pen.put_pairs.Goals as goal

pub loop-pair-init : goal.loop-pair-init
loop-pair-init c = (writing_begins refl, (refl, refl))

pub put-requires : goal.put-requires
put-requires c =
    let ps = c.pairs-pair-items.result.now in
    let all = length-pair_bytes (map pair_of ps) ∙ ap (λ qs. 5 * length qs) c.pairs-pair-items.ensures.answer in
    let i = c.loop-pair.pair-index in
    let p : Pair = get_or ps i (record { object = 0; value = 0 }) in
    let left = flat_map pair_bytes (map pair_of (drop (i + 1) ps)) in
    omega (arith, c.loop-pair.invariant.1.1, room_for_next (pair_bytes (pair_of p)) left (pairs_left ps i _ c.loop-pair-test.true) (omega (arith, all, c.requires)) c.loop-pair.invariant.0)

pub loop-pair-preserved : goal.loop-pair-preserved
loop-pair-preserved c =
    let ps = c.pairs-pair-items.result.now in
    let all = length-pair_bytes (map pair_of ps) ∙ ap (λ qs. 5 * length qs) c.pairs-pair-items.ensures.answer in
    let bytes = bytes_of_pair _ c.to_be_bytes.result c.to_be_bytes.ensures in
    (writing_goes_on _ _ (pairs_left ps c.loop-pair.pair-index _ c.loop-pair-test.true) (omega (arith, all, c.requires)) c.loop-pair.invariant.0 (wrote_same bytes c.put.ensures.bytes), (c.put.ensures.same_buffer.0 ∙ c.loop-pair.invariant.1.0, c.put.ensures.same_buffer.1 ∙ c.loop-pair.invariant.1.1))
