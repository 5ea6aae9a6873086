-- Where there is no such replica, no commit wrote.
use Rattle.std.proofs.Common.{Ok, refl, ap, ◌∙◌}
use Rattle.std.specs.Result.{result_unwrap_or}
use Rattle.stores.specs.Model.{StoreModel}
use Rattle.errands.proofs.Asked.{asked_or}
use Rattle.errands.proofs.copies.commits.Goals as goal

pub returns : goal.returns
returns g c = record { answer = c.unwrap_or.ensures ∙ ap (λ r. result_unwrap_or r 0) c.commits.ensures.answer ∙ asked_or (g.B.Bank.stores c.args.bank.now) c.args.replica (λ (m : StoreModel). Ok m.commits) 0 (λ (m : StoreModel). m.commits) (λ _. refl) refl }
