use Rattle.std.proofs.Common.{◌≡◌, ◌<◌, leb, Some, get_or, sym, ap, ◌∙◌, rules}
use borrow.Author.Tests.{tests}
use Rattle.std.specs.List.{find}
use Rattle.std.specs.Option.{unwrap_or, option_map}
use Rattle.std.proofs.lemmas.Bool.{cond_below}
use Rattle.std.proofs.lemmas.Iterator.Consumers.{YieldsList-from_first}
use Rattle.std.proofs.lemmas.Iterator.Search.{find_from_yields_List}
use Rattle.versions.specs.Chained.{linked_from, versions_left}
use Rattle.versions.proofs.Chained.{seen_as}
use Rattle.versions.proofs.chains.Chains.seen.Goals as goal

pub returns : goal.returns
returns c =
    let s = c.args.self.now in
    let j = c.args.object in
    let n = c.args.count in
    let x = get_or s.start j 0 in
    let found : option_map (λ v. v.now) c.find.result ≡ find (λ v. leb v.commit n) (linked_from s j) =
    find_from_yields_List _ c.find.new.self _ c.find.result c.find.ensures.ran (YieldsList-from_first (λ v. v.now) versions_left (linked_from s j) c.versions.ensures) (λ x b q k. search (rules, tests)) in
    let l : j < 128 = search rules in
    let e : c.map_or.result ≡ unwrap_or (option_map (λ v. v.value) (option_map (λ v. v.now) c.find.result)) x = search rules in
    ap Some (e ∙ ap (λ o. unwrap_or (option_map (λ v. v.value) o) x) found ∙ sym (seen_as s j n)) ∙ cond_below j 128 _ _ l
