-- Setting or clearing one bit of one word changes that object's mark alone.
use Rattle.std.proofs.Common.{◌≡◌, ℕ, ◌-◌, ◌/◌, ◌%◌, ◌^◌, ◌<◌, cond, eqb, get_or, sym, ap, ◌∙◌, arith}
use lib.Bits.{bit_and, bit_or}
use Rattle.std.proofs.lemmas.Nat.{one_shl}
use Rattle.marks.specs.Marked.{bit}
use Rattle.marks.proofs.Bits.{bit-set, bit-clear}
use Rattle.marks.proofs.AnyWords.{changes_that_mark_alone}
use Rattle.marks.proofs.words.put.Goals as goal
use Rattle.marks.proofs.words.put.Goals.{then-on, else-on}

pub returns-after-on : goal.returns-after-on
returns-after-on c =
    let ws = c.args.words.now in
    let j = c.args.object in
    let s = j % 64 in
    let w = get_or ws (j / 64) 0 in
    let one = one_shl s 64 (omega arith) in
    let bits : (i : ℕ) → i < 64 → bit c.if-on.words i ≡ cond (eqb i s) c.args.on (bit w i) =
    λ i h.
    elim c.if-on.branch [
      | then-on t ↦ ap (λ x. bit x i) t.words-is ∙ ap (λ n. bit (bit_or w n) i) one ∙ bit-set w s i ∙ ap (λ b. cond (eqb i s) b (bit w i)) (sym t.if-on.true)
      | else-on t ↦
          ap (λ x. bit x i) t.words-is ∙ ap (λ n. bit (bit_and w ((2 ^ 64 - 1) - n)) i) one ∙ bit-clear 64 w s i (omega arith) h
          ∙ ap (λ b. cond (eqb i s) b (bit w i)) (sym t.if-on.false)
    ] in
    record { after = changes_that_mark_alone ws j c.if-on.words c.args.on (omega arith) bits }
