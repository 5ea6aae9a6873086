use Rattle.std.proofs.Common.{◌≡◌, eqb, rules}
use borrow.Author.Tests.{tests}
use Rattle.std.specs.List.{position}
use Rattle.std.proofs.lemmas.Iterator.{YieldsList-from_slice}
use Rattle.std.proofs.lemmas.Iterator.Search.{position_from_yields_List}
use Rattle.versions.specs.Writes.{held}
use Rattle.versions.proofs.Held.{held_position}
use Rattle.versions.proofs.own_writes.OwnWrites.position.Goals as goal

pub returns : goal.returns
returns c =
    let w = c.args.self.now in
    let j = c.args.object in
    let found : c.position.result ≡ position (λ p. eqb p.object j) (held w) =
    position_from_yields_List (λ p. eqb p.object j) c.position.new.self _ c.position.result c.position.ensures.ran (YieldsList-from_slice (held w) cc) (λ x b q k. search (rules, tests)) in
    held_position w j c.position.result found
