-- Where there is no such place, none is open.
use Rattle.std.proofs.Common.{false, get_or, is_some, None, refl, ap, ◌∙◌}
use Rattle.std.specs.Result.{result_unwrap_or}
use Rattle.stores.specs.Model.{StoreModel, open_answer}
use Rattle.banks.specs.Model.{store_at}
use Rattle.errands.proofs.Asked.{asked_or}
use Rattle.errands.proofs.Looked.{open_or}
use Rattle.errands.proofs.copies.is_open.Goals as goal

pub returns : goal.returns
returns g c =
    let p = c.args.place in
    record { answer = c.unwrap_or.ensures ∙ ap (λ r. result_unwrap_or r false) c.is_open.ensures.answer ∙ asked_or (g.B.Bank.stores c.args.bank.now) c.args.replica (λ m. open_answer m p) false (λ (m : StoreModel). is_some (get_or m.places p None)) (λ _. open_or p (store_at (g.B.Bank.stores c.args.bank.now) c.args.replica)) refl }
