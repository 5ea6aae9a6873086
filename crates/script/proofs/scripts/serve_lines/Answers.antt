use Rattle.std.proofs.Common.{◌≡◌, ◌+◌, [], inl, inr, ap, ◌∙◌, arith, rules}
use Rattle.lines.specs.Scripts.{lines_of, lines_left}
use Rattle.script.specs.Lines.{said}
use Rattle.script.proofs.SoFar.{none_answered, one_more_answered, all_answered}
use Rattle.script.proofs.scripts.serve_lines.Goals as goal

pub loop-line-init : goal.loop-line-init
loop-line-init g c =
    let all : lines_left c.into_iter-line-iterator.result.a ≡ lines_of c.args.script.now = search rules in
    let one : c.into_iter-line-iterator.result.b.start ≡ 1 = search rules in
    ((tt, tt), tt, none_answered _ _ _ _ _ all one c.requires.few c.requires.room)

pub loop-line-preserved : goal.loop-line-preserved
loop-line-preserved g c =
    let told : c.unwrap_or_else-answer.result ≡ said c.answer_line.result = search rules in
    let steps = c.in-Some.ensures.steps in
    ((tt, tt), tt, one_more_answered {l = c.in-Some.line.now} steps.0 c.loop-line.invariant.2 steps.1.0 (steps.1.1 ∙ ap (λ n. n + 1) steps.1.0) c.answer_line.ensures.law told c.put-at.ensures.bytes c.put-at.ensures.most)

pub returns : goal.returns
returns g c =
    let ended : lines_left c.loop-line.line-iterator.a ≡ [] =
    elim c.in-None.ensures.steps [ inl x ↦ x.1.0 | inr x ↦ absurd (omega (arith, x.1.0, c.loop-line.invariant.2.few)) ] in
    record { law = all_answered ended c.loop-line.invariant.2 }
