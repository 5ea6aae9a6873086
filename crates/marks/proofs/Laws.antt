-- What is known of any set of marks. Assumes nothing.
use Rattle.std.proofs.Common.{◌≡◌, ℕ, zero, suc, ◌+◌, ◌-◌, ◌<◌, ◌≤◌, Bool, true, false, cond, ◌&&◌, ltb, [], ◌∷◌, length, IfSome, Some, None, Option, sym, refl, ap, ◌∙◌, subst, ⊎_elim, arith}
use Rattle.std.specs.List.{filter, range_with_len}
use Rattle.std.proofs.lemmas.Bool.{cases_lt, lt-ltb, le-ltb, and_left, both_ways}
use Rattle.marks.specs.declared.marks.Marks.{Marks}
use Rattle.marks.specs.Marked.{marked, marked_in, lowest_from, Lowest}
use Rattle.marks.specs.Objects.{marked_from}
use Rattle.marks.proofs.AnyWords.{nothing_past_the_words}

-- only the 128 objects are ever marked
pub nothing_past : (m : Marks) (j : ℕ) → 128 ≤ j → marked m j ≡ false
unfolding marked
nothing_past m j h = and_left (ltb j 128) (marked_in m.words j) (le-ltb j 128 h)

pub found_within : (m : Marks) (j : ℕ) (o : Option ℕ) → Lowest (marked m) j o → IfSome o (λ k. k < 128)
found_within m j (Some k) (l, e, low) = ⊎_elim (λ h. h) (λ h. absurd (both_ways (marked m k) (nothing_past m k h) e)) (cases_lt k 128)
found_within m j None low = tt

-- which two words hold exactly
pub in_its_words : (m : Marks) → length m.words ≡ 2 → marked m ≡ marked_in m.words
unfolding marked
in_its_words m two = λ i j.
    ⊎_elim (λ l. ap (λ b. b && marked_in m.words j) (lt-ltb j 128 l))
    (λ l. nothing_past m j l ∙ sym (nothing_past_the_words m.words j (omega arith))) (cases_lt j 128) i

-- ---- the objects in turn

-- what a walk from j on finds heads the marked objects there
abbrev Heads : (ℕ → Bool) → ℕ → ℕ → Option ℕ → Type 0
Heads f j n None = filter f (range_with_len j n) ≡ []
Heads f j n (Some k) = filter f (range_with_len j n) ≡ k ∷ filter f (range_with_len (k + 1) (j + n - (k + 1)))

heads_of : (b : Bool) (f : ℕ → Bool) (j n : ℕ) (o : Option ℕ) → f j ≡ b → Heads f (j + 1) n o → Heads f j (suc n) (cond b (Some j) o)
heads_of true f j n o e rest =
    let same : n ≡ j + suc n - (j + 1) = omega arith in
    ap (λ t. cond t (j ∷ filter f (range_with_len (j + 1) n)) (filter f (range_with_len (j + 1) n))) e ∙ ap (λ k. j ∷ filter f (range_with_len (j + 1) k)) same
heads_of false f j n None e rest = ap (λ t. cond t (j ∷ filter f (range_with_len (j + 1) n)) (filter f (range_with_len (j + 1) n))) e ∙ rest
heads_of false f j n (Some k) e rest =
    let same : j + 1 + n - (k + 1) ≡ j + suc n - (k + 1) = omega arith in
    ap (λ t. cond t (j ∷ filter f (range_with_len (j + 1) n)) (filter f (range_with_len (j + 1) n))) e ∙ rest ∙ ap (λ i. k ∷ filter f (range_with_len (k + 1) i)) same

heads : (f : ℕ → Bool) (j n : ℕ) → Heads f j n (lowest_from f j n)
unfolding lowest_from
heads f j zero = refl
heads f j (suc n) = heads_of (f j) f j n (lowest_from f (j + 1) n) refl (heads f (j + 1) n)

pub none_left : (m : Marks) (j : ℕ) → lowest_from (marked m) j (128 - j) ≡ None → marked_from m j ≡ []
unfolding marked_from
none_left m j e = subst (Heads (marked m) j (128 - j)) e (heads (marked m) j (128 - j))

pub one_in_turn : (m : Marks) (j k : ℕ) → lowest_from (marked m) j (128 - j) ≡ Some k → j ≤ k → k < 128 → marked_from m j ≡ k ∷ marked_from m (k + 1)
unfolding marked_from
one_in_turn m j k e l h =
    let same : j + (128 - j) - (k + 1) ≡ 128 - (k + 1) = omega arith in
    subst (Heads (marked m) j (128 - j)) e (heads (marked m) j (128 - j)) ∙ ap (λ n. k ∷ filter (marked m) (range_with_len (k + 1) n)) same
