-- As many objects are marked as the words mark.
use Rattle.std.proofs.Common.{◌≡◌, ◌∙◌, ◌*◌, length, arith, rules}
use Rattle.std.specs.List.{sum_by}
use Rattle.std.proofs.lemmas.Iterator.{YieldsList-from_slice, YieldsList-from_map}
use Rattle.std.proofs.lemmas.Iterator.Consumers.{fits_by_from_yields_list}
use Rattle.marks.specs.Marked.{bit, marked_in, count_below}
use Rattle.marks.proofs.AnyWords.{count_by_words}
use Rattle.marks.proofs.Scans.{count_within}
use Rattle.marks.proofs.words.count.Goals as goal

pub sum-requires-clause-fits : goal.sum-requires-clause-fits
sum-requires-clause-fits c =
    let ws = c.args.words.now in
    fits_by_from_yields_list (λ w. count_below (bit w) 64) ws c.map.result _ (YieldsList-from_map _ (λ w. count_below (bit w) 64) (YieldsList-from_slice ws cc) c.map.ensures.closure (λ x r q k. search rules)) (omega (arith, count_by_words ws, count_within (marked_in ws) (64 * length ws)))

pub returns : goal.returns
returns c =
    let ws = c.args.words.now in
    let sum : c.sum.result ≡ sum_by (λ w. count_below (bit w) 64) ws = search rules in record { answer = sum ∙ count_by_words ws }
