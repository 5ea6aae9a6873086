-- The walk begins at the object's word, passes a word without a mark, and stops at the lowest mark of the first word that has one.
use Rattle.std.proofs.Common.{◌≡◌, ℕ, ◌+◌, ◌-◌, ◌*◌, ◌/◌, ◌%◌, ◌^◌, ◌<◌, length, get_or, Some, None, max, sym, ap, ◌∙◌, subst, arith}
use lib.Count.{count_trailing_zeros}
use Rattle.marks.specs.Marked.{marked_in, lowest_from, Lowest}
use Rattle.marks.proofs.AnyWords.{walk_goes_to_the_next_word, walk_stops_in_this_word, walk_over_words_finds_the_lowest}
use Rattle.marks.proofs.words.lowest_from.Goals as goal

pub returns-then-rest-ne0 : goal.returns-then-rest-ne0
returns-then-rest-ne0 c =
    let ws = c.args.words.now in
    let j = c.args.object in
    let q = c.loop-i.i in
    let from = c.max-from.result in
    let at : max j (64 * q) ≡ from = omega (arith, c.max-from.ensures) in
    let here : from / 64 ≡ q = omega arith in
    let fits : get_or ws q 0 < 2 ^ 64 = omega arith in
    let some : 0 < get_or ws q 0 / 2 ^ (from % 64) = omega arith in
    let found =
    c.loop-i.invariant
    ∙ ap (λ k. lowest_from (marked_in ws) k (64 * length ws - k)) at
    ∙ walk_stops_in_this_word ws from (omega arith) (subst (λ n. get_or ws n 0 < 2 ^ 64) (sym here) fits) (subst (λ n. 0 < get_or ws n 0 / 2 ^ (from % 64)) (sym here) some)
    ∙ ap (λ n. Some (from + count_trailing_zeros 64 (get_or ws n 0 / 2 ^ (from % 64)))) here in
    record { answer = sym found; lowest = subst (Lowest (marked_in ws) j) found (walk_over_words_finds_the_lowest ws j) }

pub loop-i-preserved : goal.loop-i-preserved
loop-i-preserved c =
    let ws = c.args.words.now in
    let j = c.args.object in
    let q = c.loop-i.i in
    let from = c.max-from.result in
    let at : max j (64 * q) ≡ from = omega (arith, c.max-from.ensures) in
    let here : from / 64 ≡ q = omega arith in
    let next : (from / 64 + 1) * 64 ≡ max j (64 * (q + 1)) = omega arith in
    let walk = λ (k : ℕ). lowest_from (marked_in ws) k (64 * length ws - k) in
    c.loop-i.invariant ∙ ap walk at
    ∙ walk_goes_to_the_next_word ws from (omega arith) (ap (λ n. get_or ws n 0 / 2 ^ (from % 64)) here ∙ c.if-rest-ne0.false)
    ∙ ap walk next

pub returns : goal.returns
unfolding lowest_from
returns c =
    let ws = c.args.words.now in
    let j = c.args.object in
    let from = max j (64 * c.loop-i.i) in
    let past : 64 * length ws - from ≡ 0 = omega arith in
    let found : lowest_from (marked_in ws) j (64 * length ws - j) ≡ None = c.loop-i.invariant ∙ ap (lowest_from (marked_in ws) from) past in
    record { answer = sym found; lowest = subst (Lowest (marked_in ws) j) found (walk_over_words_finds_the_lowest ws j) }
