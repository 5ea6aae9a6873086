-- Two words that share a bit mark one object both, at their lowest common bit.
use Rattle.std.proofs.Common.{not, eqb, ap, sym, ◌∙◌, ⊎_elim, arith}
use lib.Bits.{bit_and}
use lib.Count.{count_trailing_zeros}
use Rattle.std.proofs.lemmas.Nat.{and_le_l}
use Rattle.std.proofs.lemmas.Bool.{cases_eq, ne_eqb}
use Rattle.marks.specs.Marked.{bit, both}
use Rattle.marks.proofs.Bits.{bit-none, bit-and, trailing_lowest}
use Rattle.marks.proofs.Scans.{any_at, any_nowhere}
use Rattle.marks.proofs.words.share.Goals as goal

pub returns : goal.returns
returns c =
    let a = c.args.word in
    let b = c.args.other in
    let x = bit_and a b in
    let f = both (bit a) (bit b) in
    ⊎_elim
    (λ z. ap (λ n. not (eqb n 0)) z ∙ sym (any_nowhere f 64 (λ i h. sym (bit-and a b i) ∙ ap (λ w. bit w i) z ∙ bit-none i)))
    (λ ne.
    let low = trailing_lowest 64 x (omega (arith, ne)) (omega (arith, and_le_l a b)) in
    ap not (ne_eqb x 0 ne) ∙ sym (any_at f (count_trailing_zeros 64 x) 64 low.within (sym (bit-and a b (count_trailing_zeros 64 x)) ∙ low.is_set)))
    (cases_eq x 0)
