-- The lowest few of the numbers that are lacking: one more.
use Rattle.std.proofs.Common.{◌≡◌, ℕ, zero, suc, ◌+◌, ◌-◌, ◌<◌, ◌≤◌, min, Bool, true, false, cond, not, ◌&&◌, ◌||◌, eqb, ltb, leb, ◌⊎◌, sym, refl, ap, ◌∙◌, inl, inr, ⊎_elim, arith}
use Rattle.std.proofs.lemmas.Bool.{both_ways, cases_Bool, cases_eq, cases_lt, eq-eqb, le-leb, lt-ltb, ltb-false, ltb-true, ne_eqb, not-false, not-true}
use Rattle.std.proofs.lemmas.Bool.Decides.{nat_tests}
use Rattle.law.specs.Numbers.{count}
use Rattle.law.specs.Words.{lowest_few}
use Rattle.law.proofs.Numbers.{Found, count_same}

or_true : (x : Bool) → (x || true) ≡ true
or_true true = refl
or_true false = refl

pub count_none : (g : ℕ → Bool) (n : ℕ) → ((i : ℕ) → 1 ≤ i → i ≤ n → g i ≡ false) → count g n ≡ 0
count_none g zero h = refl
count_none g (suc n) h = rw (h (suc n) (omega arith) (omega arith)) (count_none g n (λ i x y. h i x (omega arith)))

module _ (f : ℕ → Bool) (r : ℕ) where
  abbrev more : ℕ → Bool
  more i = eqb i r || f i

  pub count_less : f r ≡ false → 1 ≤ r → (n : ℕ) → r ≤ n → count (λ i. not (f i)) n ≡ suc (count (λ i. not (more i)) n)
  count_less e l zero x = absurd (omega arith)
  count_less e l (suc n) x = go (λ y. count_less e l n y) (cases_eq (suc n) r)
    where
      go : (r ≤ n → count (λ i. not (f i)) n ≡ suc (count (λ i. not (more i)) n)) → (suc n ≡ r) ⊎ (suc n ≡ r → ⊥) →
          count (λ i. not (f i)) (suc n) ≡ suc (count (λ i. not (more i)) (suc n))
      go ih (inl y) =
          let same : count (λ i. not (f i)) n ≡ count (λ i. not (more i)) n = count_same (λ i. not (f i)) (λ i. not (more i)) n (λ i a b. rw (ne_eqb i r (omega arith))) in
          let here : f (suc n) ≡ false = rw y e in
          let here_too : eqb (suc n) r ≡ true = eq-eqb (suc n) r y in
          rw (here, here_too) (ap suc same)
      go ih (inr y) =
          let d : count (λ i. not (f i)) n ≡ suc (count (λ i. not (more i)) n) = ih (omega arith) in
          let here_too : eqb (suc n) r ≡ false = ne_eqb (suc n) r y in
          both (f (suc n)) (eqb (suc n) r) here_too d
        where
          both : (a b : Bool) → b ≡ false → count (λ i. not (f i)) n ≡ suc (count (λ i. not (more i)) n) →
              cond (not a) (suc (count (λ i. not (f i)) n)) (count (λ i. not (f i)) n) ≡ suc (cond (not (b || a)) (suc (count (λ i. not (more i)) n)) (count (λ i. not (more i)) n))
          both true b e d = rw e d
          both false b e d = rw e (ap suc d)

  pub few_more : (N m : ℕ) → Found (λ i. not (f i)) N r → (n : ℕ) → (lowest_few more N m n || more n) ≡ (lowest_few f N (suc m) n || f n)
  few_more N m h n = go (f n) (cases_eq n r) refl
    where
      lacking : f r ≡ false
      lacking = not-true (f r) h.passes

      below : (i : ℕ) → 1 ≤ i → i < r → f i ≡ true
      below i x y = not-false (f i) (h.below i x y)

      few : (A B : ℕ) → (1 ≤ n → n ≤ N → B ≡ suc A) → ((ltb 0 n && leb n N) && ltb A m || false) ≡ ((ltb 0 n && leb n N) && ltb B (suc m) || false)
      few A B x = grind (arith, nat_tests)

      first : count (λ i. not (f i)) (r - 1) ≡ 0
      first = count_none (λ i. not (f i)) (r - 1) (λ i x y. h.below i x (omega (arith, h.least)))

      higher : f n ≡ false → (n ≡ r → ⊥) → 1 ≤ n → r < n
      higher e x y = ⊎_elim (λ (l : n < r). absurd (both_ways (f n) e (below n y l))) (λ (l : r ≤ n). omega arith) (cases_lt n r)

      go : (b : Bool) → (n ≡ r) ⊎ (n ≡ r → ⊥) → f n ≡ b → (lowest_few more N m n || more n) ≡ (lowest_few f N (suc m) n || f n)
      go true x e = rw (e, or_true (eqb n r)) (or_true _ ∙ sym (or_true _))
      go false (inl x) e = rw (x, lacking, eq-eqb r r refl, first, lt-ltb 0 r h.least, le-leb r N h.most, lt-ltb 0 (suc m) (omega arith))
      go false (inr x) e = rw (e, ne_eqb n r x) (few (count (λ i. not (more i)) (n - 1)) (count (λ i. not (f i)) (n - 1)) (λ y z. count_less lacking h.least (n - 1) (omega (arith, higher e x y))))

pub few_none : (f : ℕ → Bool) (N n : ℕ) → (lowest_few f N 0 n || f n) ≡ f n
few_none f N n = grind (arith, nat_tests)

pub few_all : (f : ℕ → Bool) (N m : ℕ) → ((i : ℕ) → 1 ≤ i → i ≤ N → not (f i) ≡ false) → (n : ℕ) → (lowest_few f N m n || f n) ≡ f n
few_all f N m h n = go (cases_Bool (f n))
  where
    go : (f n ≡ true) ⊎ (f n ≡ false) → (lowest_few f N m n || f n) ≡ f n
    go (inl e) = rw e (or_true _)
    go (inr e) = let k = h n in grind (arith, nat_tests)

-- a drain applies the smaller of m and what is lacking
pub few_count : (f : ℕ → Bool) (N m n : ℕ) → n ≤ N → count (λ i. lowest_few f N m i || f i) n ≡ count f n + min m (count (λ i. not (f i)) n)
few_count f N m zero l = omega arith
few_count f N m (suc n) l =
    let ih = few_count f N m n (omega arith) in
    let here : leb (suc n) N ≡ true = le-leb (suc n) N l in
    let less : suc n - 1 ≡ n = omega arith in
    rw (here, lt-ltb 0 (suc n) (omega arith)) (rw less (go (f (suc n)) (ltb (count (λ i. not (f i)) n) m) refl ih))
  where
    go : (a b : Bool) → ltb (count (λ i. not (f i)) n) m ≡ b →
        count (λ i. lowest_few f N m i || f i) n ≡ count f n + min m (count (λ i. not (f i)) n) →
        cond ((true && (not a && b)) || a) (suc (count (λ i. lowest_few f N m i || f i) n)) (count (λ i. lowest_few f N m i || f i) n) ≡ cond a (suc (count f n)) (count f n) + min m (cond (not a) (suc (count (λ i. not (f i)) n)) (count (λ i. not (f i)) n))
    go true true e ih = omega arith
    go true false e ih = omega arith
    go false true e ih = omega (arith, ltb-true (count (λ i. not (f i)) n) m e)
    go false false e ih = omega (arith, ltb-false (count (λ i. not (f i)) n) m e)
