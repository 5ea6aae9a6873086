-- Some object is marked in both where two words mark one both.
use Rattle.std.proofs.Common.{◌≡◌, ◌∙◌, arith, rules}
use Rattle.std.specs.List.{list_any, zip}
use borrow.Author.Tests.{tests}
use Rattle.std.proofs.lemmas.Iterator.{YieldsList-from_slice, YieldsList-from_zip}
use Rattle.std.proofs.lemmas.Iterator.Search.{any_from_yields_List}
use Rattle.marks.specs.Marked.{bit, both, any_below}
use Rattle.marks.proofs.AnyWords.{meet_by_words}
use Rattle.marks.proofs.words.meet.Goals as goal

pub returns : goal.returns
returns c =
    let a = c.args.words.now in
    let b = c.args.other.now in
    let road = YieldsList-from_zip {s = c.zip.result} (YieldsList-from_slice a cc) (YieldsList-from_slice b (search rules)) in
    let any : c.any.result ≡ list_any (λ p. any_below (both (bit p.0) (bit p.1)) 64) (zip a b) = any_from_yields_List _ c.any.new.self _ c.any.result c.any.ensures.ran road (λ x b q k. search (rules, tests)) in
    record { answer = any ∙ meet_by_words a b (omega arith) }
