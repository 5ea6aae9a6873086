-- A word's bit is the object's mark; an object past the last word has none.
use Rattle.std.proofs.Common.{◌≡◌, ◌/◌, ◌%◌, ◌^◌, ◌<◌, ◌≤◌, eqb, false, length, get_or, sym, ap, ◌∙◌, ⊎_elim, arith, rules}
use lib.Bits.{bit_and}
use Rattle.std.proofs.lemmas.Nat.{and_mask}
use Rattle.std.proofs.lemmas.Bool.{cases_lt}
use Rattle.marks.specs.Marked.{marked_in}
use Rattle.marks.proofs.AnyWords.{nothing_past_the_words}
use Rattle.marks.proofs.words.has.Goals as goal

pub returns : goal.returns
unfolding marked_in
returns c =
    let ws = c.args.words.now in
    let j = c.args.object in
    let w = get_or ws (j / 64) 0 in
    let inside : j / 64 < length ws → c.is_some_and.result ≡ eqb (bit_and (w / 2 ^ (j % 64)) 1) 1 = λ h. search rules in
    let past : length ws ≤ j / 64 → c.is_some_and.result ≡ false = λ h. search rules in
    record {
      answer =
          ⊎_elim
          (λ h. inside h ∙ ap (λ n. eqb n 1) (and_mask (w / 2 ^ (j % 64)) 1))
          (λ h. past h ∙ sym (nothing_past_the_words ws j (omega arith)))
          (cases_lt (j / 64) (length ws));
    }
