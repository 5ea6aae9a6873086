-- The longest front that passes a test.
use Rattle.std.proofs.Common.{◌≡◌, ℕ, ◌≤◌, Bool, cond, List, [], ◌∷◌, length, take, refl, ap, ◌∙◌, arith}
use Rattle.std.specs.List.{take_while}
use Rattle.std.proofs.lemmas.List.Sums.{take_while-cons}
use Rattle.std.proofs.lemmas.Bool.{cond_both}
use Rattle.lines.specs.Fronts.{front}

pub take_while_is_front : (p : ℕ → Bool) (bs : List ℕ) → take_while p bs ≡ front p bs
take_while_is_front p [] = refl
take_while_is_front p (b ∷ bs) = take_while-cons p b bs ∙ ap (λ l. cond (p b) (b ∷ l) []) (take_while_is_front p bs)

pub front_is_short : (p : ℕ → Bool) (bs : List ℕ) → length (front p bs) ≤ length bs
front_is_short p [] = omega arith
front_is_short p (b ∷ bs) = let r = front_is_short p bs in cond_both (p b) (b ∷ front p bs) [] (λ l. length l ≤ length (b ∷ bs)) (λ _. omega arith) (λ _. omega arith)

pub front_comes_first : (p : ℕ → Bool) (bs : List ℕ) → take (length (front p bs)) bs ≡ front p bs
front_comes_first p [] = refl
front_comes_first p (b ∷ bs) = cond_both (p b) (b ∷ front p bs) [] (λ l. take (length l) (b ∷ bs) ≡ l) (λ _. ap (λ l. b ∷ l) (front_comes_first p bs)) (λ _. refl)
