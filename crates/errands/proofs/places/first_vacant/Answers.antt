use Rattle.std.proofs.Common.{◌≡◌, rules, refl, sym, ap, ◌∙◌}
use Rattle.std.specs.Option.{unwrap_or}
use Rattle.std.proofs.lemmas.Iterator.{YieldsList-from_range}
use Rattle.std.proofs.lemmas.Iterator.Adapters.{option_map_id}
use Rattle.std.proofs.lemmas.Iterator.Search.{find_from_yields_List}
use Rattle.errands.specs.Places.{vacant_at, first_vacant}
use Rattle.errands.proofs.Seats.{vacant_found, none_vacant}
use Rattle.errands.proofs.places.first_vacant.Goals as goal
use borrow.Author.Tests.{tests}

pub returns : goal.returns
returns g c =
    let ms = g.B.Bank.stores c.args.bank.now in
    let k = c.args.replica in
    let found : c.find.result ≡ first_vacant ms k = sym (option_map_id c.find.result) ∙ find_from_yields_List (vacant_at ms k) _ _ c.find.result c.find.ensures.ran (YieldsList-from_range 0 16 16 refl refl) (λ x b q k. search (rules, tests)) in
    record { answer = found; number = ap (λ o. unwrap_or o 0) found ∙ vacant_found ms k 0 16; none = λ e. none_vacant ms k (sym found ∙ e) }
