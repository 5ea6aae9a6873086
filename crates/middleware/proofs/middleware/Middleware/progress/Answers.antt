use Rattle.std.proofs.Common.{refl}
use Rattle.calls.specs.declared.call.Call.TheVariants.{Applied}
use Rattle.machine.specs.Questions.{progress_told}
use Rattle.refinement.specs.Answers.{progress_listed}
use Rattle.middleware.proofs.Served.{looked}
use Rattle.middleware.specs.Meaning.{held}
use Rattle.middleware.proofs.middleware.Middleware.progress.Goals as goal

pub returns : goal.returns
returns g c =
    let before = held g.B.Bank.stores c.args.self.now in
    let x = looked progress_listed (Applied c.args.k) before _ _ c.asked.ensures.answer (progress_told before c.args.k) refl c.progress.ensures.answer in
    record { law = x.law; names = x.names }
