use Rattle.std.proofs.Common.{refl}
use Rattle.calls.specs.declared.call.Call.TheVariants.{Begin}
use Rattle.machine.specs.Beginning.{beginning}
use Rattle.law.specs.History.Answer.{told}
use Rattle.middleware.proofs.Served.{changed, gets_shut_place}
use Rattle.engine.specs.Seen.{seen}
use Rattle.middleware.specs.Meaning.{held}
use Rattle.middleware.proofs.middleware.Middleware.begin.Goals as goal

pub returns : goal.returns
returns g c =
    let before = held g.B.Bank.stores c.args.self.now in
    let x = changed told (Begin c.args.k) before _ _ c.asked.ensures.answer (seen g.B.Bank.stores c.begin.new.self) (beginning before c.args.k) refl c.begin.ensures.answer c.begin.ensures.after in
    record { law = x.law; stays = x.stays; names = x.names; place = gets_shut_place (Begin c.args.k) before (seen g.B.Bank.stores c.begin.new.self) c.args.k _ _ c.asked.ensures.answer c.begin.ensures.answer c.begin.ensures.after }
