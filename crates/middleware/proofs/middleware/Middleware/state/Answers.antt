use Rattle.std.proofs.Common.{refl}
use Rattle.calls.specs.declared.call.Call.TheVariants.{State}
use Rattle.machine.specs.Questions.{state_told}
use Rattle.refinement.specs.Answers.{state_listed}
use Rattle.middleware.proofs.Served.{looked}
use Rattle.middleware.specs.Meaning.{held}
use Rattle.middleware.proofs.middleware.Middleware.state.Goals as goal

pub returns : goal.returns
returns g c =
    let before = held g.B.Bank.stores c.args.self.now in
    let x = looked state_listed (State c.args.t) before _ _ c.asked.ensures.answer (state_told before c.args.t) refl c.state.ensures.answer in
    record { law = x.law; names = x.names }
