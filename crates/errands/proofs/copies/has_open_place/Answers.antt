-- No store has a place past the last that is looked at.
use Rattle.std.proofs.Common.{rules, refl, ◌∙◌, is_some, get_or, None, arith}
use Rattle.std.proofs.lemmas.Iterator.{YieldsList-from_range}
use Rattle.std.proofs.lemmas.Iterator.Search.{any_from_yields_List}
use Rattle.banks.specs.Model.{store_at}
use Rattle.errands.proofs.Asked.{most_places}
use Rattle.errands.proofs.Looked.{any_open_range}
use Rattle.errands.proofs.copies.has_open_place.Goals as goal
use borrow.Author.Tests.{tests}

pub returns : goal.returns
returns g c =
    let ms = g.B.Bank.stores c.args.bank.now in
    let os = (store_at ms c.args.replica).places in
    let few = most_places ms (g.met.B.Bank.lawful c.args.bank.now) c.args.replica in
    let any = any_from_yields_List (λ p. is_some (get_or os p None)) _ _ c.any.result c.any.ensures.ran (YieldsList-from_range 0 64 64 refl refl) (λ x b q k. search (rules, tests)) in
    record { answer = any ∙ any_open_range os 0 64 (omega arith) }
