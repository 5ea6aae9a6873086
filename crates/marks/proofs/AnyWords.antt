-- Marks in a list of words, however many. Assumes nothing.
use Rattle.std.proofs.Common.{◌≡◌, ℕ, ◌+◌, ◌-◌, ◌*◌, ◌/◌, ◌%◌, ◌^◌, ◌<◌, ◌≤◌, zero, suc, Bool, true, false, cond, ◌&&◌, ◌||◌, eqb, ltb, List, length, get_or, take, set, Some, sym, refl, ap, ◌∙◌, subst, ⊎_elim, arith, take_all}
use Rattle.std.specs.List.{sum_by, list_any, zip}
use lib.Bits.{bit_or}
use lib.Count.{count_trailing_zeros}
use Rattle.std.proofs.lemmas.Nat.{shr_le}
use Rattle.std.proofs.lemmas.List.{get_or-set_same, get_or-set_other, get_or_past}
use Rattle.std.proofs.lemmas.List.Folds.{list_any_more}
use Rattle.std.proofs.lemmas.Slice.Zip.{get_or-zip, length-zip}
use Rattle.std.proofs.Math.Bool.{or_comm}
use Rattle.std.proofs.lemmas.List.Sums.{sum_by_more}
use Rattle.std.proofs.lemmas.Bool.{cases_eq, cases_lt, lt-ltb, ne_eqb, both_ways}
use Rattle.std.proofs.lemmas.Bool.Decides.{nat_tests}
use Rattle.marks.specs.Marked.{bit, marked_in, with_mark, either, both, count_below, any_below, lowest_from, Lowest}
use Rattle.marks.proofs.Bits.{bit-none, bit_shifted, bit_past, bit-or, trailing_lowest}
use Rattle.marks.proofs.Scans.{count_splits, count_same, any_splits, any_same, lowest_passes, lowest_stops, walk_finds_the_lowest}

module _ (ws : List ℕ) where
  -- the mark of an object in word q, at bit r
  at_bit : (q r j : ℕ) → j / 64 ≡ q → j % 64 ≡ r → marked_in ws j ≡ bit (get_or ws q 0) r
  unfolding marked_in
  at_bit q r j e f = λ i. bit (get_or ws (e i) 0) (f i)

  pub nothing_past_the_words : (j : ℕ) → 64 * length ws ≤ j → marked_in ws j ≡ false
  unfolding marked_in
  nothing_past_the_words j h = ap (λ w. bit w (j % 64)) (get_or_past ws (j / 64) 0 (omega arith)) ∙ bit-none (j % 64)

  -- ---- one mark set or cleared

  pub changes_that_mark_alone : (j w : ℕ) (b : Bool) → j / 64 < length ws
      → ((i : ℕ) → i < 64 → bit w i ≡ cond (eqb i (j % 64)) b (bit (get_or ws (j / 64) 0) i))
      → marked_in (set ws (j / 64) w) ≡ with_mark (64 * length ws) j b (marked_in ws)
  unfolding marked_in
  changes_that_mark_alone j w b h bits =
      let e : ltb j (64 * length ws) ≡ true = lt-ltb j (64 * length ws) (omega arith) in
      let there : (k : ℕ) → k / 64 ≡ j / 64 → marked_in (set ws (j / 64) w) k ≡ cond (eqb k j) b (marked_in ws k) =
      λ k q.
      let same : eqb (k % 64) (j % 64) ≡ eqb k j = grind (arith, nat_tests) in
      ap (λ n. bit n (k % 64)) (ap (λ n. get_or (set ws (j / 64) w) n 0) q ∙ get_or-set_same ws (j / 64) w 0 h)
      ∙ bits (k % 64) (omega arith)
      ∙ (λ i. cond (same i) b (bit (get_or ws (sym q i) 0) (k % 64))) in
      let elsewhere : (k : ℕ) → (k / 64 ≡ j / 64 → ⊥) → marked_in (set ws (j / 64) w) k ≡ cond (eqb k j) b (marked_in ws k) =
      λ k ne.
      let other : eqb k j ≡ false = ne_eqb k j (λ q. ne (ap (λ n. n / 64) q)) in
      ap (λ n. bit n (k % 64)) (get_or-set_other ws (j / 64) (k / 64) w 0 ne) ∙ ap (λ t. cond t b (marked_in ws k)) (sym other) in
      (λ i k. ⊎_elim (there k) (elsewhere k) (cases_eq (k / 64) (j / 64)) i) ∙ ap (λ t. cond t (λ k. cond (eqb k j) b (marked_in ws k)) (marked_in ws)) (sym e)

  -- ---- the count

  count_of_one_word_more : (q : ℕ) → count_below (marked_in ws) (64 * q) + count_below (bit (get_or ws q 0)) 64 ≡ count_below (marked_in ws) (64 * (q + 1))
  count_of_one_word_more q =
      let f = marked_in ws in
      let e : 64 * (q + 1) ≡ 64 * q + 64 = omega arith in
      let word = count_same (λ i. f (64 * q + i)) (bit (get_or ws q 0)) 64 (λ i l. at_bit q i (64 * q + i) (omega arith) (omega arith)) in
      omega (arith, word, count_splits f (64 * q) 64, ap (count_below f) e)

  count_of_words : (n : ℕ) → n ≤ length ws → sum_by (λ w. count_below (bit w) 64) (take n ws) ≡ count_below (marked_in ws) (64 * n)
  unfolding count_below
  count_of_words zero h = refl
  count_of_words (suc n) h =
      let one_more : n + 1 ≡ suc n = omega arith in
      subst (λ k. sum_by (λ w. count_below (bit w) 64) (take k ws) ≡ count_below (marked_in ws) (64 * k)) one_more
      (sum_by_more (λ w. count_below (bit w) 64) ws n 0 (omega arith) ∙ ap (λ k. k + count_below (bit (get_or ws n 0)) 64) (count_of_words n (omega arith)) ∙ count_of_one_word_more n)

  pub count_by_words : sum_by (λ w. count_below (bit w) 64) ws ≡ count_below (marked_in ws) (64 * length ws)
  count_by_words = ap (sum_by (λ w. count_below (bit w) 64)) (sym (take_all (length ws) ws (omega arith))) ∙ count_of_words (length ws) (omega arith)

  -- ---- the walk

  pub walk_goes_to_the_next_word : (j : ℕ) → j / 64 < length ws → get_or ws (j / 64) 0 / 2 ^ (j % 64) ≡ 0
      → lowest_from (marked_in ws) j (64 * length ws - j) ≡ lowest_from (marked_in ws) ((j / 64 + 1) * 64) (64 * length ws - (j / 64 + 1) * 64)
  walk_goes_to_the_next_word j h none =
      let f = marked_in ws in
      let w = get_or ws (j / 64) 0 in
      let s = j % 64 in
      let d = 64 - s in
      let n = 64 * length ws - (j / 64 + 1) * 64 in
      let whole : 64 * length ws - j ≡ d + n = omega arith in
      let next : j + d ≡ (j / 64 + 1) * 64 = omega arith in
      ap (lowest_from f j) whole
      ∙ lowest_passes f j d n (λ i p l. at_bit (j / 64) (s + (i - j)) i (omega arith) (omega arith) ∙ sym (bit_shifted w s (i - j)) ∙ ap (λ x. bit x (i - j)) none ∙ bit-none (i - j))
      ∙ ap (λ k. lowest_from f k n) next

  pub walk_stops_in_this_word : (j : ℕ) → j / 64 < length ws → get_or ws (j / 64) 0 < 2 ^ 64 → 0 < get_or ws (j / 64) 0 / 2 ^ (j % 64)
      → lowest_from (marked_in ws) j (64 * length ws - j) ≡ Some (j + count_trailing_zeros 64 (get_or ws (j / 64) 0 / 2 ^ (j % 64)))
  walk_stops_in_this_word j h fits some =
      let f = marked_in ws in
      let w = get_or ws (j / 64) 0 in
      let s = j % 64 in
      let t = count_trailing_zeros 64 (w / 2 ^ s) in
      let low = trailing_lowest 64 (w / 2 ^ s) some (omega (arith, shr_le w s)) in
      let here : bit w (s + t) ≡ true = sym (bit_shifted w s t) ∙ low.is_set in
      let within : s + t < 64 = ⊎_elim (λ l. l) (λ l. absurd (both_ways (bit w (s + t)) (bit_past w 64 (s + t) fits l) here)) (cases_lt (s + t) 64) in
      let n = 64 * length ws - (j + t) in
      let whole : 64 * length ws - j ≡ t + n = omega arith in
      ap (lowest_from f j) whole
      ∙ lowest_passes f j t n (λ i p l. at_bit (j / 64) (s + (i - j)) i (omega arith) (omega arith) ∙ sym (bit_shifted w s (i - j)) ∙ low.below (i - j) (omega arith))
      ∙ lowest_stops f (j + t) n (omega arith) (at_bit (j / 64) (s + t) (j + t) (omega arith) (omega arith) ∙ here)

  pub walk_over_words_finds_the_lowest : (j : ℕ) → Lowest (marked_in ws) j (lowest_from (marked_in ws) j (64 * length ws - j))
  walk_over_words_finds_the_lowest j = walk_finds_the_lowest (marked_in ws) j (64 * length ws - j) (λ i p. nothing_past_the_words i (omega arith))

-- ---- two sets

pub joined_word_by_word : (a b c : List ℕ) → ((q : ℕ) → get_or c q 0 ≡ bit_or (get_or a q 0) (get_or b q 0)) → marked_in c ≡ either (marked_in a) (marked_in b)
unfolding marked_in
joined_word_by_word a b c e = λ i k. (ap (λ w. bit w (k % 64)) (e (k / 64)) ∙ bit-or (get_or a (k / 64) 0) (get_or b (k / 64) 0) (k % 64)) i

module _ (a b : List ℕ) (same : length b ≡ length a) where
  -- two words mark an object both
  abbrev share : ℕ × ℕ → Bool
  share p = any_below (both (bit p.0) (bit p.1)) 64

  pair_at : (q : ℕ) → q < length a → get_or (zip a b) q (0, 0) ≡ (get_or a q 0, get_or b q 0)
  pair_at q h = get_or-zip a b q (0, 0) h (omega arith)

  meet_in_one_word_more : (q : ℕ) → q < length a → (any_below (both (marked_in a) (marked_in b)) (64 * q) || share (get_or (zip a b) q (0, 0))) ≡ any_below (both (marked_in a) (marked_in b)) (64 * (q + 1))
  meet_in_one_word_more q h =
      let f = both (marked_in a) (marked_in b) in
      let e : 64 * q + 64 ≡ 64 * (q + 1) = omega arith in
      let word = any_same (λ i. f (64 * q + i)) (both (bit (get_or a q 0)) (bit (get_or b q 0))) 64 (λ k l i. at_bit a q k (64 * q + k) (omega arith) (omega arith) i && at_bit b q k (64 * q + k) (omega arith) (omega arith) i) in
      or_comm (any_below f (64 * q)) (share (get_or (zip a b) q (0, 0))) ∙ ap (λ x. x || any_below f (64 * q)) (ap share (pair_at q h) ∙ sym word) ∙ sym (any_splits f (64 * q) 64) ∙ ap (any_below f) e

  meet_in_words : (n : ℕ) → n ≤ length a → list_any share (take n (zip a b)) ≡ any_below (both (marked_in a) (marked_in b)) (64 * n)
  unfolding any_below
  meet_in_words zero h = refl
  meet_in_words (suc n) h =
      let one_more : n + 1 ≡ suc n = omega arith in
      subst (λ k. list_any share (take k (zip a b)) ≡ any_below (both (marked_in a) (marked_in b)) (64 * k)) one_more
      (list_any_more share (zip a b) n (0, 0) (omega (arith, length-zip a b)) ∙ ap (λ x. x || share (get_or (zip a b) n (0, 0))) (meet_in_words n (omega arith)) ∙ meet_in_one_word_more n (omega arith))

  pub meet_by_words : list_any (λ p. any_below (both (bit p.0) (bit p.1)) 64) (zip a b) ≡ any_below (both (marked_in a) (marked_in b)) (64 * length a)
  meet_by_words = ap (list_any share) (sym (take_all (length a) (zip a b) (omega (arith, length-zip a b)))) ∙ meet_in_words (length a) (omega arith)
