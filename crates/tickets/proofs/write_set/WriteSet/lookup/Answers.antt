use Rattle.std.proofs.Common.{◌≡◌, ◌==◌, ap, ◌∙◌, rules}
use Rattle.std.proofs.lemmas.Iterator.{YieldsList-from_slice}
use Rattle.std.proofs.lemmas.Iterator.Search.{find_from_yields_List}
use Rattle.std.specs.Borrow.{Bor}
use Rattle.std.specs.Option.{option_map}
use Rattle.tickets.specs.WriteSets.{Pairs, lookup}
use Rattle.tickets.specs.declared.pair.Pair.{Pair}
use Rattle.tickets.proofs.Found.{lookup_first}
use Rattle.tickets.proofs.write_set.WriteSet.lookup.Goals as goal
use borrow.Author.Tests.{tests}

pub returns : goal.returns
returns c =
    let xs = c.pairs.result.now in
    let found = find_from_yields_List (λ (p : Pair). c.args.object == p.object) _ _ c.find.result c.find.ensures.ran (YieldsList-from_slice xs cc) (λ x b q k. search (rules, tests)) in
    let mapped : c.map.result ≡ option_map (λ (y : Bor Pair). y.now.value) c.find.result = search rules in
    record { answer = mapped ∙ lookup_first xs c.args.object c.find.result found ∙ ap (λ (ps : Pairs). lookup ps c.args.object) c.pairs.ensures.answer }
