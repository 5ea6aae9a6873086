-- In words of zeros nothing is marked.
use Rattle.std.proofs.Common.{◌≡◌, ℕ, zero, suc, ◌/◌, ◌%◌, ltb, get_or, replicate, refl, ap, ◌∙◌}
use Rattle.std.proofs.lemmas.Bool.{and_right}
use Rattle.marks.specs.Marked.{bit, marked, marked_in}
use Rattle.marks.proofs.Bits.{bit-none}
use Rattle.marks.proofs.marks.Marks.none.Goals as goal

zeros : (n q : ℕ) → ◌≡◌ {A = ℕ} (get_or (replicate n 0) q 0) 0
zeros zero q = refl
zeros (suc n) zero = refl
zeros (suc n) (suc q) = zeros n q

pub returns : goal.returns
unfolding marked marked_in
returns c = record { answer = λ i j. and_right (ltb j 128) (marked_in (replicate 2 0) j) (ap (λ w. bit w (j % 64)) (zeros 2 (j / 64)) ∙ bit-none (j % 64)) i }
