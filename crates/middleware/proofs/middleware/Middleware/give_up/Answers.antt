use Rattle.std.proofs.Common.{refl}
use Rattle.calls.specs.declared.call.Call.TheVariants.{GiveUp}
use Rattle.machine.specs.Working.{giving_up}
use Rattle.refinement.specs.Answers.{quiet}
use Rattle.middleware.proofs.Served.{changed}
use Rattle.engine.specs.Seen.{seen}
use Rattle.middleware.specs.Meaning.{held}
use Rattle.middleware.proofs.middleware.Middleware.give_up.Goals as goal

pub returns : goal.returns
returns g c =
    let before = held g.B.Bank.stores c.args.self.now in
    let x = changed quiet (GiveUp c.args.t) before _ _ c.asked.ensures.answer (seen g.B.Bank.stores c.give_up.new.self) (giving_up before c.args.t) refl c.give_up.ensures.answer c.give_up.ensures.after in
    record { law = x.law; stays = x.stays; names = x.names }
