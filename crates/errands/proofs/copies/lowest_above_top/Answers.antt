use Rattle.std.proofs.Common.{rules, refl}
use Rattle.std.proofs.lemmas.Iterator.{YieldsList-from_range}
use Rattle.std.proofs.lemmas.Iterator.Search.{find_from_yields_List}
use Rattle.banks.specs.Model.{store_at}
use Rattle.errands.specs.Copies.{above_top}
use Rattle.errands.proofs.Looked.{first_object_found}
use Rattle.errands.proofs.copies.lowest_above_top.Goals as goal
use borrow.Author.Tests.{tests}

pub returns : goal.returns
returns g c =
    let f = above_top (store_at (g.B.Bank.stores c.args.bank.now) c.args.replica).board in
    record { answer = first_object_found f _ (find_from_yields_List f _ _ c.find.result c.find.ensures.ran (YieldsList-from_range 0 128 128 refl refl) (λ x b q k. search (rules, tests))) }
