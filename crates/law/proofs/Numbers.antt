-- Numbers from 1 to n and tallies.
use Rattle.std.proofs.Common.{◌≡◌, ℕ, zero, suc, ◌+◌, ◌<◌, ◌≤◌, Bool, true, false, cond, ◌||◌, eqb, ltb, leb, ◌⊎◌, List, [], ◌∷◌, ◌++◌, length, get_or, set, sym, refl, ap, inl, inr, ⊎_elim, arith}
use mathlib.Core.Bool.{beq}
use Rattle.std.proofs.lemmas.Bool.{and_from, and_parts, cases_eq, eq-eqb, le-leb, leb-true, lt-ltb, ltb-true, ne_eqb}
use Rattle.law.specs.Numbers.{count, exactly, lowest, or_else, tally, up_to}

pub up_to_bounds : (m n : ℕ) → up_to m n ≡ true → (1 ≤ n) × (n ≤ m)
up_to_bounds m n e = let a = and_parts (ltb 0 n) (leb n m) e in (ltb-true 0 n a.0, leb-true n m a.1)

pub up_to_from : (m n : ℕ) → 1 ≤ n → n ≤ m → up_to m n ≡ true
up_to_from m n x y = and_from (ltb 0 n) (leb n m) (lt-ltb 0 n x) (le-leb n m y)

abbrev pub bit : Bool → ℕ
bit b = cond b 1 0

-- a tally where one element is changed, and where there is one more
module _ {X : Type 0} (f : X → Bool) where
  pub tally_set : (d : X) (l : List X) (i : ℕ) (x : X) → i < length l → tally f (set l i x) + bit (f (get_or l i d)) ≡ tally f l + bit (f x)
  tally_set d [] i x h = absurd (omega arith)
  tally_set d (y ∷ l) zero x h = go (f y) (f x)
    where
      go : (a b : Bool) → cond b (suc (tally f l)) (tally f l) + bit a ≡ cond a (suc (tally f l)) (tally f l) + bit b
      go true true = omega arith
      go true false = omega arith
      go false true = omega arith
      go false false = omega arith
  tally_set d (y ∷ l) (suc i) x h = go (f y) (tally_set d l i x (omega arith))
    where
      go : (a : Bool) → tally f (set l i x) + bit (f (get_or l i d)) ≡ tally f l + bit (f x) →
          cond a (suc (tally f (set l i x))) (tally f (set l i x)) + bit (f (get_or l i d)) ≡ cond a (suc (tally f l)) (tally f l) + bit (f x)
      go true e = omega arith
      go false e = e

  pub tally_push : (l : List X) (x : X) → tally f (l ++ x ∷ []) ≡ tally f l + bit (f x)
  tally_push [] x = go (f x)
    where
      go : (a : Bool) → cond a 1 0 ≡ 0 + bit a
      go true = omega arith
      go false = omega arith
  tally_push (y ∷ l) x = go (f y) (tally_push l x)
    where
      go : (a : Bool) → tally f (l ++ x ∷ []) ≡ tally f l + bit (f x) →
          cond a (suc (tally f (l ++ x ∷ []))) (tally f (l ++ x ∷ [])) ≡ cond a (suc (tally f l)) (tally f l) + bit (f x)
      go true e = omega arith
      go false e = e

-- the lowest that passes
pub record Found (f : ℕ → Bool) (n r : ℕ) : Type 0 where
  pub least : 1 ≤ r
  pub most : r ≤ n
  pub passes : f r ≡ true
  pub below : (m : ℕ) → 1 ≤ m → m < r → f m ≡ false

abbrev pub Lowest : (ℕ → Bool) → ℕ → ℕ → Type 0
Lowest f n zero = (m : ℕ) → 1 ≤ m → m ≤ n → f m ≡ false
Lowest f n (suc r) = Found f n (suc r)

pub lowest_is : (f : ℕ → Bool) (n : ℕ) → Lowest f n (lowest f n)
lowest_is f zero = λ m p q. absurd (omega arith)
lowest_is f (suc n) = go (lowest f n) (lowest_is f n)
  where
    new : ((m : ℕ) → 1 ≤ m → m ≤ n → f m ≡ false) → (b : Bool) → f (suc n) ≡ b → Lowest f (suc n) (cond b (suc n) 0)
    new h true e = record { least = omega arith; most = omega arith; passes = e; below = λ m p q. h m p (omega arith) }
    new h false e = λ m p q. ⊎_elim (λ (i : m ≡ suc n). rw i e) (λ (i : m ≡ suc n → ⊥). h m p (omega arith)) (cases_eq m (suc n))

    go : (r : ℕ) → Lowest f n r → Lowest f (suc n) (or_else r (cond (f (suc n)) (suc n) 0))
    go zero h = new h (f (suc n)) refl
    go (suc r) h = record { least = h.least; most = omega (arith, h.most); passes = h.passes; below = h.below }

-- a whole replica: the numbers that pass are 1 to p
pub exactly_is : (f : ℕ → Bool) (p n : ℕ) → exactly f p n ≡ true → (i : ℕ) → 1 ≤ i → i ≤ n → f i ≡ leb i p
exactly_is f p zero e i x y = absurd (omega arith)
exactly_is f p (suc n) e i x y = go (exactly_is f p n (and_parts (beq (f (suc n)) (leb (suc n) p)) (exactly f p n) e).1 i x) (cases_eq i (suc n))
  where
    same : (a b : Bool) → beq a b ≡ true → a ≡ b
    same true true h = refl
    same true false h = sym h
    same false true h = h
    same false false h = refl

    go : (i ≤ n → f i ≡ leb i p) → (i ≡ suc n) ⊎ (i ≡ suc n → ⊥) → f i ≡ leb i p
    go ih (inl d) = rw d (same (f (suc n)) (leb (suc n) p) (and_parts (beq (f (suc n)) (leb (suc n) p)) (exactly f p n) e).0)
    go ih (inr d) = ih (omega arith)

pub count_most : (f : ℕ → Bool) (n : ℕ) → count f n ≤ n
count_most f zero = omega arith
count_most f (suc n) = let ih = count_most f n in grind arith

pub count_same : (f g : ℕ → Bool) (n : ℕ) → ((i : ℕ) → 1 ≤ i → i ≤ n → f i ≡ g i) → count f n ≡ count g n
count_same f g zero p = refl
count_same f g (suc n) p =
    let ih = count_same f g n (λ i x y. p i x (omega arith)) in
    let e = p (suc n) (omega arith) (omega arith) in
    cc

-- one more passes
pub count_add : (f : ℕ → Bool) (n : ℕ) → f n ≡ false → 1 ≤ n → (G : ℕ) → n ≤ G → count (λ i. eqb i n || f i) G ≡ suc (count f G)
count_add f n e l zero m = absurd (omega arith)
count_add f n e l (suc G) m = go (λ y. count_add f n e l G y) (cases_eq (suc G) n)
  where
    go : (n ≤ G → count (λ i. eqb i n || f i) G ≡ suc (count f G)) → (suc G ≡ n) ⊎ (suc G ≡ n → ⊥) → count (λ i. eqb i n || f i) (suc G) ≡ suc (count f (suc G))
    go ih (inl y) =
        let same : count (λ i. eqb i n || f i) G ≡ count f G = count_same (λ i. eqb i n || f i) f G (λ i a b. rw (ne_eqb i n (omega arith))) in
        let here : f (suc G) ≡ false = rw y e in
        rw (here, eq-eqb (suc G) n y) (ap suc same)
    go ih (inr y) = both (f (suc G)) (eqb (suc G) n) (ne_eqb (suc G) n y) (ih (omega arith))
      where
        both : (a b : Bool) → b ≡ false → count (λ i. eqb i n || f i) G ≡ suc (count f G) →
            cond (b || a) (suc (count (λ i. eqb i n || f i) G)) (count (λ i. eqb i n || f i) G) ≡ suc (cond a (suc (count f G)) (count f G))
        both true b z d = rw z (ap suc d)
        both false b z d = rw z d
