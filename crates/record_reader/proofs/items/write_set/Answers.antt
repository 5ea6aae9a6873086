use Rattle.std.proofs.Common.{map, Some, sym, ap, ◌∙◌}
use Rattle.std.proofs.lemmas.Bool.{cond-true, cond-false}
use Rattle.std.proofs.lemmas.List.{drop_more}
use Rattle.tickets.specs.Meaning.{set_pairs}
use Rattle.record_format.specs.Reading.{pair_in}
use Rattle.record_format.proofs.Accepting.{gathered_more, bad_value, bad_object}
use Rattle.record_reader.proofs.items.write_set.Goals as goal

pub returns-in_err-pair_in-2 : goal.returns-in_err-pair_in-2
returns-in_err-pair_in-2 c =
    let next = ap (map pair_in) (drop_more c.in_ok-first.others.now c.loop-pair.pair-index _ c.loop-pair-test.true) in
    record { answer = ap set_pairs c.from_residual-in_err-pair_in-2.ensures ∙ bad_value next c.loop-pair.invariant c.in_err-pair_in-2.ensures.answer }

pub returns-then-not-push : goal.returns-then-not-push
returns-then-not-push c =
    let next = ap (map pair_in) (drop_more c.in_ok-first.others.now c.loop-pair.pair-index _ c.loop-pair-test.true) in
    record { answer = bad_object next c.loop-pair.invariant c.in_ok-pair_in-2.ensures.answer (sym (cond-false _ _ _ (sym c.if-not-push.ensures.answer))) }

pub loop-pair-preserved : goal.loop-pair-preserved
loop-pair-preserved c =
    let next = ap (map pair_in) (drop_more c.in_ok-first.others.now c.loop-pair.pair-index _ c.loop-pair-test.true) in
    gathered_more next c.loop-pair.invariant c.in_ok-pair_in-2.ensures.answer (ap Some c.if-not-push.ensures.after ∙ sym (cond-true _ _ _ (sym c.if-not-push.ensures.answer)))
