use Rattle.std.proofs.Common.{refl}
use Rattle.calls.specs.declared.call.Call.TheVariants.{Write}
use Rattle.machine.specs.Working.{writing}
use Rattle.refinement.specs.Answers.{quiet}
use Rattle.middleware.proofs.Served.{changed}
use Rattle.engine.specs.Seen.{seen}
use Rattle.middleware.specs.Meaning.{held}
use Rattle.middleware.proofs.middleware.Middleware.write.Goals as goal

pub returns : goal.returns
returns g c =
    let before = held g.B.Bank.stores c.args.self.now in
    let x = changed quiet (Write c.args.t c.args.j c.args.v) before _ _ c.asked.ensures.answer (seen g.B.Bank.stores c.write.new.self) (writing before c.args.t c.args.j c.args.v) refl c.write.ensures.answer c.write.ensures.after in
    record { law = x.law; stays = x.stays; names = x.names }
