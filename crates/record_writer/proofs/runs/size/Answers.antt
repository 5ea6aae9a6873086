use Rattle.std.proofs.Common.{rules, ◌+◌, refl, ap, ◌∙◌}
use Rattle.record_format.specs.Items.{fits}
use Rattle.record_format.specs.Meaning.{item_of}
use Rattle.record_format.proofs.Sets.{sizing_begins, one_more_sized}
use Rattle.record_writer.proofs.runs.size.Goals as goal

pub loop-set-init : goal.loop-set-init
loop-set-init g c = sizing_begins (g.R.NumberedSets.items c.args.run.now) (search rules) (search rules)

pub loop-set-preserved : goal.loop-set-preserved
loop-set-preserved g c =
    let (next, (number, further)) = c.in-Some.ensures.steps in
    let stands = c.if-not-may_stand.ensures.answer ∙ ap (λ n. fits n (item_of c.in-Some.set)) number in
    let more = one_more_sized (g.R.NumberedSets.items c.args.run.now) c.loop-set.invariant c.in-Some.set next c.len.result _ stands c.len.ensures.answer c.len.ensures.bounds.1 refl in
    rw (further ∙ ap (λ n. n + 1) number) more
