use Rattle.std.proofs.Common.{refl}
use Rattle.calls.specs.declared.call.Call.TheVariants.{Apply}
use Rattle.machine.specs.Applying.{applying}
use Rattle.refinement.specs.Answers.{quiet}
use Rattle.middleware.proofs.Served.{changed}
use Rattle.engine.specs.Seen.{seen}
use Rattle.middleware.specs.Meaning.{held}
use Rattle.middleware.proofs.middleware.Middleware.apply.Goals as goal

pub returns : goal.returns
returns g c =
    let before = held g.B.Bank.stores c.args.self.now in
    let x = changed quiet (Apply c.args.k c.args.n) before _ _ c.asked.ensures.answer (seen g.B.Bank.stores c.apply.new.self) (applying before c.args.k c.args.n) refl c.apply.ensures.answer c.apply.ensures.after in
    record { law = x.law; stays = x.stays; names = x.names }
