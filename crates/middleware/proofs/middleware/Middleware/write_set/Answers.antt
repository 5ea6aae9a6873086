use Rattle.std.proofs.Common.{refl}
use Rattle.calls.specs.declared.call.Call.TheVariants.{WriteSet}
use Rattle.machine.specs.Questions.{set_told}
use Rattle.middleware.proofs.Served.{tells_set, whole_set, named}
use Rattle.middleware.specs.Meaning.{held}
use Rattle.middleware.proofs.middleware.Middleware.write_set.Goals as goal

pub returns : goal.returns
returns g c =
    let before = held g.B.Bank.stores c.args.self.now in
    record { names = named _ _ _ c.asked.ensures.answer; law = tells_set (WriteSet c.args.n) before _ _ c.asked.ensures.answer (set_told before c.args.n) refl c.write_set.ensures.answer; whole = whole_set (WriteSet c.args.n) _ _ _ c.asked.ensures.answer c.write_set.ensures.answer }
