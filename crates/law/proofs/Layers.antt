-- Write sets played in number order.
use Rattle.std.proofs.Common.{◌≡◌, ℕ, zero, suc, ◌<◌, ◌≤◌, Bool, true, false, cond, ◌||◌, eqb, leb, ◌⊎◌, is_some, Some, None, Option, refl, ap, ◌∙◌, inl, inr, arith}
use Rattle.std.proofs.lemmas.Bool.{cases_eq, eq-eqb, lt-leb, ne_eqb}
use Rattle.std.proofs.lemmas.Bool.Decides.{nat_tests}
use Rattle.tickets.specs.WriteSets.{over}
use Rattle.law.specs.Words.{layers}

pub layers_same : (f g : ℕ → Bool) (w u : ℕ → ℕ → Option ℕ) (b : ℕ → ℕ) (n j : ℕ) → ((i : ℕ) → 1 ≤ i → i ≤ n → f i ≡ g i) →
    ((i : ℕ) → 1 ≤ i → i ≤ n → w i j ≡ u i j) → layers f w b n j ≡ layers g u b n j
layers_same f g w u b zero j p q = refl
layers_same f g w u b (suc n) j p q =
    let ih = layers_same f g w u b n j (λ i x y. p i x (omega arith)) (λ i x y. q i x (omega arith)) in
    let e = p (suc n) (omega arith) (omega arith) in
    let d = q (suc n) (omega arith) (omega arith) in
    cc

-- n is played over the others, if no higher number among them shares an object with it
module _ (f : ℕ → Bool) (w : ℕ → ℕ → Option ℕ) (b : ℕ → ℕ) (n j : ℕ) where
  abbrev pub with : ℕ → Bool
  with i = eqb i n || f i

  add_none : w n j ≡ None → (N : ℕ) → layers with w b N j ≡ layers f w b N j
  add_none e zero = refl
  add_none e (suc N) = let ih = add_none e N in grind (arith, nat_tests)

  add_some : (v : ℕ) → w n j ≡ Some v → (N : ℕ) → n ≤ N → 1 ≤ n → ((m : ℕ) → n < m → m ≤ N → f m ≡ true → is_some (w m j) ≡ true → ⊥) → layers with w b N j ≡ v
  add_some v e zero p q h = absurd (omega arith)
  add_some v e (suc N) p q h = go (λ x. add_some v e N x q (λ m y z. h m y (omega arith))) (cases_eq (suc N) n)
    where
      above : n < suc N → layers with w b N j ≡ v → (a : Bool) (o : Option ℕ) → f (suc N) ≡ a → w (suc N) j ≡ o →
          cond (eqb (suc N) n || a) (over o (layers with w b N j)) (layers with w b N j) ≡ v
      above l ih true None d c = rw (ne_eqb (suc N) n (omega arith)) ih
      above l ih true (Some x) d c = absurd (h (suc N) l (omega arith) d (ap is_some c))
      above l ih false o d c = rw (ne_eqb (suc N) n (omega arith)) ih

      go : (n ≤ N → layers with w b N j ≡ v) → (suc N ≡ n) ⊎ (suc N ≡ n → ⊥) → layers with w b (suc N) j ≡ v
      go ih (inl x) = rw (x, eq-eqb n n refl, e)
      go ih (inr x) = above (omega arith) (ih (omega arith)) (f (suc N)) (w (suc N) j) refl refl

  pub layers_add : (N : ℕ) → n ≤ N → 1 ≤ n → ((m : ℕ) → n < m → m ≤ N → f m ≡ true → is_some (w n j) ≡ true → is_some (w m j) ≡ true → ⊥) →
      layers with w b N j ≡ over (w n j) (layers f w b N j)
  layers_add N p q h = go (w n j) refl
    where
      go : (o : Option ℕ) → w n j ≡ o → layers with w b N j ≡ over o (layers f w b N j)
      go None e = add_none e N
      go (Some v) e = add_some v e N p q (λ m x y z c. h m x y z (ap is_some e) c)

-- where 1 to p are played, all of 1 to p are
pub layers_front : (f : ℕ → Bool) (w : ℕ → ℕ → Option ℕ) (b : ℕ → ℕ) (p n j : ℕ) → p ≤ n → ((i : ℕ) → 1 ≤ i → i ≤ n → f i ≡ leb i p) → layers f w b n j ≡ layers (λ _. true) w b p j
layers_front f w b p zero j l h = rw (zero_is p l)
  where
    zero_is : (m : ℕ) → m ≤ 0 → m ≡ 0
    zero_is m x = omega arith
layers_front f w b p (suc n) j l h = go (λ x. layers_front f w b p n j x (λ i y z. h i y (omega arith))) (cases_eq p (suc n))
  where
    go : (p ≤ n → layers f w b n j ≡ layers (λ _. true) w b p j) → (p ≡ suc n) ⊎ (p ≡ suc n → ⊥) → layers f w b (suc n) j ≡ layers (λ _. true) w b p j
    go ih (inl e) = layers_same f (λ _. true) w w b (suc n) j (λ i x y. h i x y ∙ grind (arith, nat_tests)) (λ i x y. refl) ∙ rw e
    go ih (inr e) = rw (h (suc n) (omega arith) (omega arith), lt-leb (suc n) p (omega arith)) (ih (omega arith))
