-- The lowest unapplied number in each turn, until there is none or enough were applied.
use Rattle.std.proofs.Common.{◌≡◌, ℕ, Some, None, Ok, Err, sym, ap, ◌∙◌, arith}
use Rattle.std.proofs.lemmas.Result.{err_from_is_err_and}
use Rattle.ledger.specs.Sets.{lowest_unapplied}
use Rattle.machine.specs.Machine.{Came}
use Rattle.machine.proofs.Drained.{drained_end, drained_none, drained_more, drained_err}
use Rattle.engine.specs.Seen.{seen}
use Rattle.engine.proofs.engine.Engine.drain_at.Goals as goal

pub returns-in_default : goal.returns-in_default
returns-in_default g c =
    let b = seen g.B.Bank.stores c.loop-made.self in
    let none : lowest_unapplied b.sets c.args.replica ≡ None = sym c.lowest_unapplied.ensures.answer ∙ c.in_default.is in
    let whole = c.loop-made.invariant ∙ drained_none c.args.replica c.args.m c.loop-made.made b c.loop-made-test.true none in
    record { answer = sym (ap (λ (o : Came ℕ). o.answer) whole); after = sym (ap (λ (o : Came ℕ). o.after) whole) }

pub returns-in_err-play : goal.returns-in_err-play
returns-in_err-play g c =
    let b = seen g.B.Bank.stores c.loop-made.self in
    let some : lowest_unapplied b.sets c.args.replica ≡ Some c.from.result = sym c.lowest_unapplied.ensures.answer ∙ c.in-Some.is ∙ ap Some (sym c.from.ensures) in
    let whole = c.loop-made.invariant ∙ drained_err c.args.replica c.args.m c.loop-made.made b c.loop-made-test.true c.from.result some _ _ c.play.ensures.answer c.play.ensures.after _ c.in_err-play.was in
    let p = err_from_is_err_and c.from_residual.result c.from_residual.ensures.1 in
    record { answer = p.1 ∙ ap Err p.2 ∙ sym (ap (λ (o : Came ℕ). o.answer) whole); after = sym (ap (λ (o : Came ℕ). o.after) whole) }

pub loop-made-preserved : goal.loop-made-preserved
loop-made-preserved g c =
    let b = seen g.B.Bank.stores c.loop-made.self in
    let some : lowest_unapplied b.sets c.args.replica ≡ Some c.from.result = sym c.lowest_unapplied.ensures.answer ∙ c.in-Some.is ∙ ap Some (sym c.from.ensures) in
    c.loop-made.invariant ∙ drained_more c.args.replica c.args.m c.loop-made.made b c.loop-made-test.true c.from.result some _ _ c.play.ensures.answer c.play.ensures.after _ c.in_ok-play.was

pub returns : goal.returns
returns g c =
    let all : c.args.m ≡ c.loop-made.made = omega arith in
    let whole = c.loop-made.invariant ∙ drained_end c.args.replica c.args.m c.loop-made.made (seen g.B.Bank.stores c.loop-made.self) c.loop-made-test.false in
    record { answer = ap Ok all ∙ sym (ap (λ (o : Came ℕ). o.answer) whole); after = sym (ap (λ (o : Came ℕ). o.after) whole) }
