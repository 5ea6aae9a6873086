-- Replica 0 is there, and its board has 128 values.
use Rattle.std.proofs.Common.{◌≡◌, ◌<◌, ◌≢◌, length, sym, refl, ◌∙◌, arith, below_more}
use Rattle.std.proofs.lemmas.List.{ext_get_or, length-set, get_or-set_same, get_or-set_other}
use Rattle.banks.specs.Model.{store_at}
use Rattle.errands.proofs.copies.starting_board.Goals as goal

pub loop-object-init : goal.loop-object-init
loop-object-init g c = (refl, λ i h. absurd (omega arith))

pub loop-object-preserved : goal.loop-object-preserved
loop-object-preserved g c =
    let start = c.loop-object.value-items in
    let at = c.loop-object.object in
    let here : at < length start = omega (arith, c.loop-object.invariant.0) in (
      length-set start at _ ∙ c.loop-object.invariant.0,
      below_more _ _
          (λ k h. let ne : k ≢ at = omega arith in get_or-set_other start at k _ 0 ne ∙ c.loop-object.invariant.1 k h)
          (get_or-set_same start at _ 0 here ∙ c.value_at.ensures.answer),
    )

pub returns : goal.returns
returns g c =
    let board = (store_at (g.B.Bank.stores c.args.bank.now) 0).board in
    let long : length board ≡ 128 = (g.met.B.Bank.lawful c.args.bank.now 0 (g.met.B.Bank.some c.args.bank.now)).whole in
    record { answer = ext_get_or 0 c.loop-object.value-items board (c.loop-object.invariant.0 ∙ sym long) (λ i h. c.loop-object.invariant.1 i (omega (arith, c.loop-object.invariant.0))) }
