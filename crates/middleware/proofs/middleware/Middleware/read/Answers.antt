use Rattle.std.proofs.Common.{refl}
use Rattle.calls.specs.declared.call.Call.TheVariants.{Read}
use Rattle.machine.specs.Working.{reading}
use Rattle.law.specs.History.Answer.{told}
use Rattle.middleware.proofs.Served.{looked}
use Rattle.middleware.specs.Meaning.{held}
use Rattle.middleware.proofs.middleware.Middleware.read.Goals as goal

pub returns : goal.returns
returns g c =
    let before = held g.B.Bank.stores c.args.self.now in
    let x = looked told (Read c.args.t c.args.j) before _ _ c.asked.ensures.answer (reading before c.args.t c.args.j) refl c.read.ensures.answer in
    record { law = x.law; names = x.names }
