use Rattle.std.proofs.Common.{◌≡◌, Some, ap, sym, ◌∙◌, rules}
use Rattle.std.specs.Prelude.{MatchOption}
use Rattle.stores.specs.Model.{bind, read_at}
use Rattle.versions.specs.Meaning.{history_of, value_in}
use Rattle.version_store.proofs.ReadBack.{read_back}
use Rattle.version_store.proofs.store.methods.VersionStoreStore.read.Goals as goal

pub returns : goal.returns
returns c =
    let h = history_of c.args.self.now.history in
    let pl = c.in_ok-open.open.now in
    let j = c.args.object in
    let told : MatchOption c.get.result (c.or_else.result ≡ value_in h pl.begun j) (λ v. c.or_else.result ≡ Some v) = search rules in
    record { answer = c.ok_or.ensures.value ∙ read_back h pl j c.or_else.result c.get.result c.get.ensures.answer told ∙ ap (λ o. bind o (read_at j)) (sym c.in_ok-open.ensures.found) }
