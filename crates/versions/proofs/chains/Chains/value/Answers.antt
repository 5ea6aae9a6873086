use Rattle.std.proofs.Common.{◌≡◌, ◌<◌, List, [], ◌∷◌, Some, get_or, ap, ◌∙◌, rules}
use Rattle.std.proofs.lemmas.Bool.{cond_below}
use Rattle.versions.specs.declared.version.Version.{Version}
use Rattle.versions.specs.Histories.{current}
use Rattle.versions.specs.Chained.{versions_of, linked_from}
use Rattle.versions.proofs.Chained.{read_as}
use Rattle.versions.proofs.chains.Chains.value.Goals as goal

pub returns : goal.returns
returns c =
    let s = c.args.self.now in
    let j = c.args.object in
    let none : linked_from s j ≡ [] → current (versions_of s j) ≡ get_or s.start j 0 = λ e. ap current (read_as s j [] e) in
    let some : (v : Version) (vs : List Version) → linked_from s j ≡ v ∷ vs → current (versions_of s j) ≡ v.value = λ v vs e. ap current (read_as s j (v ∷ vs) e) in
    let l : j < 128 = search rules in
    let e : c.map_or.result ≡ current (versions_of s j) = search (rules, none, some) in
    ap Some e ∙ cond_below j 128 _ _ l
