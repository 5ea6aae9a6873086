-- Where there is no such replica, no board has a value.
use Rattle.std.proofs.Common.{refl, ap, ◌∙◌}
use Rattle.std.specs.Result.{result_unwrap_or}
use Rattle.stores.specs.Model.{StoreModel, value_answer}
use Rattle.tickets.specs.Boards.{value}
use Rattle.errands.proofs.Asked.{asked_or}
use Rattle.errands.proofs.Looked.{value_or}
use Rattle.errands.proofs.copies.value_at.Goals as goal

pub returns : goal.returns
returns g c =
    let j = c.args.object in
    let ms = g.B.Bank.stores c.args.bank.now in
    record { answer = c.unwrap_or.ensures ∙ ap (λ r. result_unwrap_or r 0) c.value.ensures.answer ∙ asked_or ms c.args.replica (λ m. value_answer m j) 0 (λ (m : StoreModel). value m.board j) (λ h. value_or j _ (g.met.B.Bank.lawful c.args.bank.now c.args.replica h)) refl }
