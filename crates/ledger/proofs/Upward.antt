-- What is found over the numbers from 1 on: how many pass, whether without holes, and the lowest that does.
use Rattle.std.proofs.Common.{◌≡◌, ℕ, zero, suc, ◌+◌, ◌-◌, ◌<◌, ◌≤◌, Bool, true, false, not, cond, ◌&&◌, eqb, ltb, leb, List, map, length, get_or, take, drop, Option, IfSome, Some, None, sym, refl, ap, ◌∙◌, inl, inr, add-one, arith}
use mathlib.Core.Bool.{beq}
use Rattle.std.specs.List.{position, position_or_len}
use Rattle.std.specs.Option.{option_map}
use Rattle.std.proofs.lemmas.Bool.{cases_eq, cases_lt, lt-ltb, le-ltb, le-leb, lt-leb, eq-eqb, ne_eqb, and_from, and_left, and_right, cond-true, cond-false}
use Rattle.std.proofs.lemmas.List.{at_drop_more, at_drop_all, drop-map, take-map, get_or-drop, get_or-take, get_or_past, length-map, length-drop, length-take}
use Rattle.std.proofs.lemmas.List.Recursion.{is_position_or_len}
use Rattle.std.proofs.lemmas.List.Sums.{fails_before_first, passes_at_first, prefix_len-le-length}
use Rattle.ledger.specs.Words.{up_to, count, exactly, whole, lowest, or_else, some_number, tally}

-- ---- how many

pub count_none : (f : ℕ → Bool) → count f 0 ≡ 0
unfolding count
count_none f = refl

pub count_yes : (f : ℕ → Bool) (i : ℕ) → f (i + 1) ≡ true → count f (i + 1) ≡ count f i + 1
unfolding count
count_yes f i e = ap (count f) (add-one i) ∙ cond-true (f (suc i)) _ _ (rw add-one at e) ∙ sym (add-one (count f i))

pub count_not : (f : ℕ → Bool) (i : ℕ) → f (i + 1) ≡ false → count f (i + 1) ≡ count f i
unfolding count
count_not f i e = ap (count f) (add-one i) ∙ cond-false (f (suc i)) _ _ (rw add-one at e)

count_le : (f : ℕ → Bool) (n : ℕ) → count f n ≤ n
unfolding count
count_le f zero = omega arith
count_le f (suc n) = one_more (f (suc n)) (count f n) n (count_le f n)
  where
    one_more : (b : Bool) (c n : ℕ) → c ≤ n → cond b (suc c) c ≤ suc n
    one_more true c n h = omega arith
    one_more false c n h = omega arith

-- ---- whether without holes

pub whole_none : (f : ℕ → Bool) → whole f 0 ≡ true
unfolding exactly
whole_none f = refl

-- where all of 1 to n pass, they are among 1 to p
all_exactly : (f : ℕ → Bool) (p n : ℕ) → count f n ≡ n → n ≤ p → exactly f p n ≡ true
unfolding count exactly
all_exactly f p zero e h = refl
all_exactly f p (suc n) e h = by (f (suc n)) refl e (all_exactly f p n)
  where
    by : (b : Bool) → f (suc n) ≡ b → cond b (suc (count f n)) (count f n) ≡ suc n → (count f n ≡ n → n ≤ p → exactly f p n ≡ true) → beq (f (suc n)) (leb (suc n) p) && exactly f p n ≡ true
    by true t c rest =
        let l = le-leb (suc n) p h in
        and_from _ _ (λ i. beq (t i) (l i)) (rest (omega arith) (omega arith))
    by false t c rest = absurd (omega (arith, count_le f n))

pub whole_yes : (f : ℕ → Bool) (i : ℕ) → f (i + 1) ≡ true → whole f (i + 1) ≡ eqb (count f i) i
unfolding exactly
whole_yes f i e =
    let c = count_yes f i e ∙ add-one (count f i) in
    let at : whole f (i + 1) ≡ exactly f (suc (count f i)) (suc i) = (λ r. exactly f (c r) (add-one i r)) in
    let yes : f (suc i) ≡ true = rw add-one at e in
    elim (cases_eq (count f i) i) [
      | inl same ↦
          let l = le-leb (suc i) (suc (count f i)) (omega arith) in
          at ∙ and_from _ _ (λ r. beq (yes r) (l r)) (all_exactly f (suc (count f i)) i same (omega arith)) ∙ sym (eq-eqb (count f i) i same)
      | inr less ↦
          let l = lt-leb (suc i) (suc (count f i)) (omega (arith, count_le f i)) in
          at ∙ (λ r. beq (yes r) (l r) && exactly f (suc (count f i)) i) ∙ sym (ne_eqb (count f i) i less)
    ]

pub whole_not : (f : ℕ → Bool) (i : ℕ) → f (i + 1) ≡ false → whole f (i + 1) ≡ whole f i
unfolding exactly
whole_not f i e =
    let c = count_not f i e in
    let no : f (suc i) ≡ false = rw add-one at e in
    let l = lt-leb (suc i) (count f i) (omega (arith, count_le f i)) in
    (λ r. exactly f (c r) (add-one i r)) ∙ (λ r. beq (no r) (l r) && exactly f (count f i) i)

-- ---- the lowest

lowest_at : (f : ℕ → Bool) (i : ℕ) → f (i + 1) ≡ true → lowest f i ≡ 0 → lowest f (i + 1) ≡ i + 1
unfolding lowest
lowest_at f i e h = rw add-one (let e' : f (suc i) ≡ true = rw add-one at e in rw (h, e'))

lowest_stays : (f : ℕ → Bool) (i r d : ℕ) → lowest f i ≡ suc r → lowest f (d + i) ≡ suc r
unfolding lowest
lowest_stays f i r zero h = let e : zero + i ≡ i = omega arith in rw e h
lowest_stays f i r (suc d) h = let e : suc d + i ≡ suc (d + i) = omega arith in let s = lowest_stays f i r d h in rw (e, s)

lowest_found : (f : ℕ → Bool) (i n : ℕ) → i < n → f (i + 1) ≡ true → lowest f i ≡ 0 → lowest f n ≡ i + 1
lowest_found f i n l e h =
    let a : lowest f (i + 1) ≡ suc i = lowest_at f i e h ∙ add-one i in
    let s = lowest_stays f (i + 1) i (n - (i + 1)) a in
    let z : n - (i + 1) + (i + 1) ≡ n = omega arith in
    rw z at s ∙ sym (add-one i)

lowest_nowhere : (f : ℕ → Bool) (n : ℕ) → ((m : ℕ) → 0 < m → m ≤ n → f m ≡ false) → lowest f n ≡ 0
unfolding lowest
lowest_nowhere f zero none = refl
lowest_nowhere f (suc n) none =
    let h = lowest_nowhere f n (λ m l b. none m l (omega arith)) in
    let e = none (suc n) (omega arith) (omega arith) in
    rw (h, e)

lowest_le : (f : ℕ → Bool) (n : ℕ) → lowest f n ≤ n
unfolding lowest
lowest_le f zero = omega arith
lowest_le f (suc n) = either (lowest f n) (f (suc n)) n (lowest_le f n)
  where
    either : (r : ℕ) (b : Bool) (n : ℕ) → r ≤ n → or_else r (cond b (suc n) 0) ≤ suc n
    either zero true n h = omega arith
    either zero false n h = omega arith
    either (suc r) b n h = omega arith

-- ---- the first of a list that passes, and the lowest number that does

-- number s + k + 1 passes where element k does, and no other number passes
lowest_first : {X : Type 0} (f : ℕ → Bool) (p : X → Bool) (ys : List X) (d : X) (s n : ℕ) → ((m : ℕ) → 0 < m → m ≤ s → f m ≡ false) → ((k : ℕ) → k < length ys → (s + k < n) × (f (s + k + 1) ≡ p (get_or ys k d))) → ((m : ℕ) → s + length ys < m → m ≤ n → f m ≡ false) → some_number (lowest f n) ≡ option_map (λ i. s + i + 1) (position p ys)
lowest_first f p ys d s n low at high =
    let r = position_or_len p ys in
    elim (cases_lt r (length ys)) [
      | inl l ↦
          some_lowest (lowest f n) (s + r) (lowest_found f (s + r) n (at r l).0 ((at r l).1 ∙ passes_at_first p ys d l) (lowest_nowhere f (s + r) (below r (λ k h. h))))
          ∙ sym (ap (option_map (λ i. s + i + 1)) (cond-true _ _ _ (lt-ltb r (length ys) l)))
      | inr l ↦
          ap some_number (lowest_nowhere f n (nowhere (below (length ys) (λ k h. omega arith))))
          ∙ sym (ap (option_map (λ i. s + i + 1)) (cond-false _ _ _ (le-ltb r (length ys) l)))
    ]
  where
    some_lowest : (m i : ℕ) → m ≡ i + 1 → some_number m ≡ Some (i + 1)
    some_lowest m i e = ap some_number (e ∙ add-one i) ∙ ap Some (sym (add-one i))

    below : (t : ℕ) → ((k : ℕ) → k < t → k < position_or_len p ys) → (m : ℕ) → 0 < m → m ≤ s + t → f m ≡ false
    below t within m h b =
        elim (cases_lt s m) [
          | inl a ↦
              let k = m - (s + 1) in
              let w = within k (omega arith) in
              let e : s + k + 1 ≡ m = omega arith in
              ap f (sym e) ∙ (at k (omega (arith, prefix_len-le-length (λ x. not (p x)) ys))).1 ∙ fails_before_first p ys k d w
          | inr a ↦ low m h a
        ]

    nowhere : ((m : ℕ) → 0 < m → m ≤ s + length ys → f m ≡ false) → (m : ℕ) → 0 < m → m ≤ n → f m ≡ false
    nowhere within m h b = elim (cases_lt (s + length ys) m) [ inl a ↦ high m a b | inr a ↦ within m h a ]

position-map : {A X : Type 0} (v : A → X) (p : X → Bool) (xs : List A) → position p (map v xs) ≡ position (λ x. p (v x)) xs
position-map v p xs =
    let r = is_position_or_len (λ ys. position_or_len p (map v ys)) (λ x. p (v x)) refl (λ x ys. turned (p (v x)) (position_or_len p (map v ys))) xs in
    let l = length-map xs v in
    (λ i. cond (ltb (r i) (l i)) (Some (r i)) None)
  where
    turned : (b : Bool) (n : ℕ) → cond (not b) (1 + n) 0 ≡ cond b 0 (1 + n)
    turned true n = refl
    turned false n = refl

from_zero : (o : Option ℕ) → option_map (λ i. 0 + i + 1) o ≡ option_map (λ i. i + 1) o
from_zero None = refl
from_zero (Some i) = let e : 0 + i + 1 ≡ i + 1 = omega arith in ap Some e

-- above s, by what the elements mean
pub lowest_above : {A X : Type 0} (v : A → X) (p : X → Bool) (xs : List A) (d : X) (s : ℕ) → some_number (lowest (λ n. ltb s n && p (get_or (map v xs) (n - 1) d)) (length (map v xs))) ≡ option_map (λ i. s + i + 1) (position (λ x. p (v x)) (drop s xs))
lowest_above {A} {X} v p xs d s =
    let us = map v xs in
    let l = length-drop s us in
    lowest_first (λ n. ltb s n && p (get_or us (n - 1) d)) p (drop s us) d s (length us) (λ m h b. and_left (ltb s m) _ (le-ltb s m b)) (λ k h. (omega arith, at us k)) (λ m h b. absurd (omega arith))
    ∙ ap (option_map (λ i. s + i + 1)) (ap (position p) (drop-map v s xs) ∙ position-map v p (drop s xs))
  where
    at : (us : List X) (k : ℕ) → (ltb s (s + k + 1) && p (get_or us (s + k + 1 - 1) d)) ≡ p (get_or (drop s us) k d)
    at us k =
        let above = lt-ltb s (s + k + 1) (omega arith) in
        let e : s + k + 1 - 1 ≡ s + k = omega arith in
        (λ i. above i && p (get_or us (e i) d)) ∙ ap p (sym (get_or-drop s us k d))

-- all of them
pub lowest_all : {A X : Type 0} (v : A → X) (p : X → Bool) (xs : List A) (d : X) → some_number (lowest (λ n. p (get_or (map v xs) (n - 1) d)) (length (map v xs))) ≡ option_map (λ i. i + 1) (position (λ x. p (v x)) xs)
lowest_all {A} {X} v p xs d =
    let us = map v xs in
    lowest_first (λ n. p (get_or us (n - 1) d)) p us d 0 (length us) (λ m h b. absurd (omega arith)) (λ k h. (omega arith, let e : 0 + k + 1 - 1 ≡ k = omega arith in ap (λ n. p (get_or us n d)) e)) (λ m h b. absurd (omega arith))
    ∙ ap (option_map (λ i. 0 + i + 1)) (position-map v p xs)
    ∙ from_zero _

-- up to the last, where nothing past the elements passes
pub lowest_within : {A X : Type 0} (v : A → X) (p : X → Bool) (xs : List A) (d : X) (last : ℕ) → p d ≡ false → some_number (lowest (λ n. p (get_or (map v xs) (n - 1) d)) last) ≡ option_map (λ i. i + 1) (position (λ x. p (v x)) (take last xs))
lowest_within {A} {X} v p xs d last past =
    let us = map v xs in
    let l = length-take last us in
    lowest_first (λ n. p (get_or us (n - 1) d)) p (take last us) d 0 last (λ m h b. absurd (omega arith)) (λ k h. (omega arith, at us k (omega arith))) (λ m h b. ap p (get_or_past us (m - 1) d (omega arith)) ∙ past)
    ∙ ap (option_map (λ i. 0 + i + 1)) (ap (position p) (take-map v last xs) ∙ position-map v p (take last xs))
    ∙ from_zero _
  where
    at : (us : List X) (k : ℕ) → k < last → p (get_or us (0 + k + 1 - 1) d) ≡ p (get_or (take last us) k d)
    at us k h =
        let e : 0 + k + 1 - 1 ≡ k = omega arith in
        ap (λ n. p (get_or us n d)) e ∙ ap p (sym (get_or-take last us k d h))

-- ---- how many of a list, by those that are left

pub tally_yes : {X : Type 0} (f : X → Bool) (xs : List X) (i : ℕ) (d : X) → i < length xs → f (get_or xs i d) ≡ true → tally f (drop i xs) ≡ suc (tally f (drop (i + 1) xs))
unfolding tally
tally_yes f xs i d h e = at_drop_more (tally f) xs i d h ∙ cond-true (f (get_or xs i d)) _ _ e

pub tally_not : {X : Type 0} (f : X → Bool) (xs : List X) (i : ℕ) (d : X) → i < length xs → f (get_or xs i d) ≡ false → tally f (drop i xs) ≡ tally f (drop (i + 1) xs)
unfolding tally
tally_not f xs i d h e = at_drop_more (tally f) xs i d h ∙ cond-false (f (get_or xs i d)) _ _ e

pub tally_all : {X : Type 0} (f : X → Bool) (xs : List X) (i : ℕ) → length xs ≤ i → tally f (drop i xs) ≡ 0
unfolding tally
tally_all f xs i h = at_drop_all (tally f) xs i h

-- ---- numbers that were given

pub up_to_yes : (m n : ℕ) → 0 < n → n ≤ m → up_to m n ≡ true
up_to_yes m n low high = and_from _ _ (lt-ltb 0 n low) (le-leb n m high)

pub up_to_zero : (m n : ℕ) → n ≡ 0 → up_to m n ≡ false
up_to_zero m n e = and_left (ltb 0 n) (leb n m) (le-ltb 0 n (omega arith))

pub up_to_past : (m n : ℕ) → m < n → up_to m n ≡ false
up_to_past m n h = and_right (ltb 0 n) (leb n m) (lt-leb n m h)

-- a lowest one that there is was given
pub lowest_given : (f : ℕ → Bool) (n : ℕ) → IfSome (some_number (lowest f n)) (λ m. up_to n m ≡ true)
lowest_given f n = by (lowest f n) (lowest_le f n)
  where
    by : (r : ℕ) → r ≤ n → IfSome (some_number r) (λ m. up_to n m ≡ true)
    by zero h = tt
    by (suc r) h = up_to_yes n (suc r) (omega arith) h
