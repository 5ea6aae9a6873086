-- Each own write put behind those told before; the law of stores leaves room for it.
use Rattle.std.proofs.Common.{◌≡◌, ◌+◌, [], ◌∷◌, ◌++◌, Ok, Err, sym, refl, ap, ◌∙◌, subst, arith}
use Rattle.std.proofs.lemmas.Result.{err_from_is_err_and}
use Rattle.tickets.specs.Meaning.{pair_of, set_pairs}
use Rattle.errands.specs.Own.{pairs_in, some_pairs, gathered}
use Rattle.errands.proofs.Told.{GiveWhole, turn, turn_none, turn_refused, some_push}
use Rattle.errands.proofs.gather.gather.Goals as goal

pub loop-pair-init : goal.loop-pair-init
loop-pair-init g c = (λ pl at. refl, refl, omega arith)

pub returns-in_err-pair : goal.returns-in_err-pair
returns-in_err-pair g c =
    let e = err_from_is_err_and c.from_residual.result c.from_residual.ensures.1 in
    let none = turn_refused (g.B.Bank.stores c.args.bank.now) c.args.replica c.args.place c.loop-pair.from _ (sym c.own_from.ensures.answer ∙ c.in_err-pair.was) in
    record { answer = ap gathered e.1 ∙ ap Err e.2 ∙ sym none }

pub overflow_add-from : goal.overflow_add-from
overflow_add-from g c =
    let told = sym c.own_from.ensures.answer ∙ c.in_ok-pair.was ∙ ap Ok c.in-Some.is in
    let t = turn (g.B.Bank.stores c.args.bank.now) c.args.replica c.args.place c.loop-pair.from _ c.loop-pair.invariant.0 (g.met.B.Bank.lawful c.args.bank.now) c.in-Some.pair c.loop-pair.invariant.2 told in
    omega (arith, t.below)

pub loop-pair-smaller : goal.loop-pair-smaller
loop-pair-smaller g c =
    let told = sym c.own_from.ensures.answer ∙ c.in_ok-pair.was ∙ ap Ok c.in-Some.is in
    let t = turn (g.B.Bank.stores c.args.bank.now) c.args.replica c.args.place c.loop-pair.from _ c.loop-pair.invariant.0 (g.met.B.Bank.lawful c.args.bank.now) c.in-Some.pair c.loop-pair.invariant.2 told in
    omega (arith, t.from, t.below)

pub loop-pair-preserved : goal.loop-pair-preserved
loop-pair-preserved g c =
    let ms = g.B.Bank.stores c.args.bank.now in
    let ps = pairs_in (set_pairs c.loop-pair.set) in
    let w = c.in-Some.pair in
    let told = sym c.own_from.ensures.answer ∙ c.in_ok-pair.was ∙ ap Ok c.in-Some.is in
    let t = turn ms c.args.replica c.args.place c.loop-pair.from ps c.loop-pair.invariant.0 (g.met.B.Bank.lawful c.args.bank.now) w c.loop-pair.invariant.2 told in
    let set = c.added-set.ensures.answer ∙ t.set in
    let more : pairs_in (set_pairs c.added-set.result) ≡ ps ++ pair_of w ∷ [] = ap pairs_in set in (
      subst (GiveWhole ms c.args.replica c.args.place (w.object + 1)) (sym more) t.left,
      set ∙ sym (some_push ps (pair_of w)) ∙ ap some_pairs (sym more),
      omega (arith, t.below),
    )

pub returns : goal.returns
returns g c =
    let told = sym c.own_from.ensures.answer ∙ c.in_ok-pair.was ∙ ap Ok c.in_default.is in
    record { answer = ap Ok c.loop-pair.invariant.1 ∙ sym (turn_none (g.B.Bank.stores c.args.bank.now) c.args.replica c.args.place c.loop-pair.from _ c.loop-pair.invariant.0 told) }
