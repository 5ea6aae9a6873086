-- A commit after the count wrote an object of the pairs where the newest version of one of them is past the count.
use Rattle.std.proofs.Common.{◌≡◌, sym, ◌∙◌, rules}
use borrow.Author.Tests.{tests}
use Rattle.std.specs.List.{list_any}
use Rattle.std.proofs.lemmas.Iterator.{YieldsList-from_slice}
use Rattle.std.proofs.lemmas.Iterator.Search.{any_from_yields_List}
use Rattle.versions.specs.Histories.{written_since}
use Rattle.versions.specs.Chained.{versions_of}
use Rattle.versions.specs.Writes.{held}
use Rattle.versions.proofs.Clashes.{clash_is}
use Rattle.versions.proofs.history.History.overtakes.Goals as goal

pub returns : goal.returns
returns c =
    let vs = versions_of c.args.self.now.chains in
    let w = c.args.own.now in
    let since = written_since vs c.args.count in
    let any : c.any.result ≡ list_any (λ p. since p.object) (held w) =
    any_from_yields_List _ c.any.new.self _ c.any.result c.any.ensures.ran (YieldsList-from_slice (held w) cc) (λ x b q k. search (rules, tests)) in
    record { answer = any ∙ sym (clash_is since (held w) w.once) }
