use Rattle.std.proofs.Common.{refl}
use Rattle.calls.specs.declared.call.Call.TheVariants.{Value}
use Rattle.machine.specs.Questions.{value_told}
use Rattle.law.specs.History.Answer.{told}
use Rattle.middleware.proofs.Served.{looked}
use Rattle.middleware.specs.Meaning.{held}
use Rattle.middleware.proofs.middleware.Middleware.value.Goals as goal

pub returns : goal.returns
returns g c =
    let before = held g.B.Bank.stores c.args.self.now in
    let x = looked told (Value c.args.k c.args.j) before _ _ c.asked.ensures.answer (value_told before c.args.k c.args.j) refl c.value.ensures.answer in
    record { law = x.law; names = x.names }
