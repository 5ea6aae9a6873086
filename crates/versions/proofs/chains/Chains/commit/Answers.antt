use Rattle.std.proofs.Common.{◌≡◌, List, [], ◌∷◌, ap, rules}
use Rattle.versions.specs.declared.version.Version.{Version}
use Rattle.versions.specs.Histories.{newest}
use Rattle.versions.specs.Chained.{versions_of, linked_from}
use Rattle.versions.proofs.Chained.{read_as}
use Rattle.versions.proofs.chains.Chains.commit.Goals as goal

pub returns : goal.returns
returns c =
    let s = c.args.self.now in
    let j = c.args.object in
    let none : linked_from s j ≡ [] → newest (versions_of s j) ≡ 0 = λ e. ap newest (read_as s j [] e) in
    let some : (v : Version) (vs : List Version) → linked_from s j ≡ v ∷ vs → newest (versions_of s j) ≡ v.commit = λ v vs e. ap newest (read_as s j (v ∷ vs) e) in
    search (rules, none, some)
