-- Words joined one by one mark what either marked.
use Rattle.std.proofs.Common.{◌≤◌, length, sym, ◌∙◌, ⊎_elim, arith}
use lib.Bits.{bit_or}
use Rattle.std.proofs.lemmas.List.{get_or_past}
use Rattle.std.proofs.lemmas.Bool.{cases_lt}
use Rattle.marks.proofs.AnyWords.{joined_word_by_word}
use Rattle.marks.proofs.words.join.Goals as goal

pub returns : goal.returns
returns c =
    let a = c.args.words.now in
    let b = c.args.other.now in
    let d = c.loop-i.words in
    record {
      after =
          joined_word_by_word a b d (λ q. ⊎_elim (c.loop-i.invariant.0 q)
          (λ l.
          let past : length a ≤ q = omega arith in
          c.loop-i.invariant.1 q l ∙ get_or_past a q 0 past ∙ (λ i. bit_or (sym (get_or_past a q 0 past) i) (sym (get_or_past b q 0 (omega arith)) i))) (cases_lt q c.loop-i.i));
    }
