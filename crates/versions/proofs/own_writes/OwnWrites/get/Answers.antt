use Rattle.std.proofs.Common.{◌≡◌, eqb, sym, ap, ◌∙◌, rules}
use borrow.Author.Tests.{tests}
use Rattle.std.specs.List.{find}
use Rattle.std.specs.Option.{option_map}
use Rattle.std.proofs.lemmas.Iterator.{YieldsList-from_slice}
use Rattle.std.proofs.lemmas.Iterator.Search.{find_from_yields_List}
use Rattle.versions.specs.Writes.{held}
use Rattle.versions.proofs.Pairs.{own_found}
use Rattle.versions.proofs.own_writes.OwnWrites.get.Goals as goal

pub returns : goal.returns
returns c =
    let w = c.args.self.now in
    let j = c.args.object in
    let found : option_map (λ p. p.now) c.find.result ≡ find (λ p. eqb p.object j) (held w) =
    find_from_yields_List _ c.find.new.self _ c.find.result c.find.ensures.ran (YieldsList-from_slice (held w) cc) (λ x b q k. search (rules, tests)) in
    let value : c.map.result ≡ option_map (λ p. p.value) (option_map (λ p. p.now) c.find.result) = search rules in
    record { answer = value ∙ ap (option_map (λ p. p.value)) found ∙ sym (own_found (held w) j) }
