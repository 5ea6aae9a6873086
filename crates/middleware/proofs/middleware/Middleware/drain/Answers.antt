use Rattle.std.proofs.Common.{refl}
use Rattle.calls.specs.declared.call.Call.TheVariants.{Drain}
use Rattle.machine.specs.Applying.{draining}
use Rattle.law.specs.History.Answer.{told}
use Rattle.middleware.proofs.Served.{changed}
use Rattle.engine.specs.Seen.{seen}
use Rattle.middleware.specs.Meaning.{held}
use Rattle.middleware.proofs.middleware.Middleware.drain.Goals as goal

pub returns : goal.returns
returns g c =
    let before = held g.B.Bank.stores c.args.self.now in
    let x = changed told (Drain c.args.k c.args.m) before _ _ c.asked.ensures.answer (seen g.B.Bank.stores c.drain.new.self) (draining before c.args.k c.args.m) refl c.drain.ensures.answer c.drain.ensures.after in
    record { law = x.law; stays = x.stays; names = x.names }
