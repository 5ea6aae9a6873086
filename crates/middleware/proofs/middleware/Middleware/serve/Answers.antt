use Rattle.std.proofs.Common.{◌≡◌, length, vec_items, sym, ◌∙◌, arith}
use Rattle.middleware.specs.Listing.{past}
use Rattle.middleware.specs.Serving.{AllCarry}
use Rattle.middleware.proofs.Served.{runs_next, runs_all, carry_next, carry_all}
use Rattle.middleware.specs.Meaning.{held}
use Rattle.middleware.proofs.middleware.Middleware.serve.Goals as goal

pub loop-call-init : goal.loop-call-init
unfolding past AllCarry
loop-call-init g c = (c.requires.none, c.requires.room, λ start K new. new, tt)

pub loop-call-preserved : goal.loop-call-preserved
loop-call-preserved g c =
    let m = held g.B.Bank.stores in
    let inv = c.loop-call.invariant in
    let i = c.loop-call.call-index in
    let long : length (vec_items c.loop-call.answers) ≡ i = sym c.loop-call.answers.ok.0 ∙ inv.0 in (
      omega (arith, c.push_reserved.ensures.len, inv.0),
      omega (arith, c.push_reserved.ensures.capacity, inv.1),
      runs_next (m c.args.self.now) (m c.loop-call.self) (m c.call.new.self) c.args.queue.now i (vec_items c.loop-call.answers) (vec_items c.push_reserved.new.self) _ c.call.result c.loop-call-test.true long c.push_reserved.ensures.items inv.2 c.call.ensures.law,
      carry_next c.args.queue.now i (vec_items c.loop-call.answers) (vec_items c.push_reserved.new.self) _ c.call.result c.loop-call-test.true long c.push_reserved.ensures.items inv.3 c.call.ensures.names,
    )

pub returns : goal.returns
returns g c =
    let m = held g.B.Bank.stores in
    record { law = runs_all (m c.args.self.now) (m c.loop-call.self) c.args.queue.now c.loop-call.call-index (vec_items c.loop-call.answers) c.loop-call-test.false c.loop-call.invariant.2; names = carry_all c.args.queue.now c.loop-call.call-index (vec_items c.loop-call.answers) c.loop-call-test.false c.loop-call.invariant.3 }
