-- The clash of two write sets: as pairs, as functions of the object, and today's rule.
use Rattle.std.proofs.Common.{◌≡◌, ℕ, Bool, true, false, cond, ◌||◌, eqb, [], ◌∷◌, is_some, Some, None, Option, refl, ap, ⊎_elim}
use Rattle.std.proofs.lemmas.Bool.{both_ways, eq-eqb, eqb-true, or_cases, or_left, or_right}
use Rattle.tickets.specs.WriteSets.{Pairs, lookup, stands}
use Rattle.law.specs.Clashes.{ClashAgrees, ClashIsSharing, Clashing, clash, clash_at}

clash_found : (b : Bool) (v : ℕ) (o w : Option ℕ) → b ≡ true → is_some w ≡ true → clash_at (cond b (Some v) o) w ≡ true
clash_found true v o w e h = h
clash_found false v o w e h = absurd (both_ways false refl e)

clash_later : (b : Bool) (v : ℕ) (o w : Option ℕ) → clash_at o w ≡ true → clash_at (cond b (Some v) o) w ≡ true
clash_later true v None w h = absurd (both_ways false refl h)
clash_later true v (Some x) w h = h
clash_later false v o w h = h

-- pairs that clash do so at some object
pub clash_some : (u w : Pairs) → clash u w ≡ true → Clashing (lookup u) (lookup w)
clash_some [] w e = absurd (both_ways false refl e)
clash_some ((i, v) ∷ u) w e = ⊎_elim here (λ (x : clash u w ≡ true). rest (clash_some u w x)) (or_cases (stands w i) (clash u w) e)
  where
    here : stands w i ≡ true → Clashing (lookup ((i, v) ∷ u)) (lookup w)
    here h = (i, clash_found (eqb i i) v (lookup u i) (lookup w i) (eq-eqb i i refl) h)

    rest : Clashing (lookup u) (lookup w) → Clashing (lookup ((i, v) ∷ u)) (lookup w)
    rest r = (r.0, clash_later (eqb r.0 i) v (lookup u r.0) (lookup w r.0) r.1)

-- pairs that clash at some object clash
pub clash_from : (u w : Pairs) → Clashing (lookup u) (lookup w) → clash u w ≡ true
clash_from [] w (j, e) = absurd (both_ways false refl e)
clash_from ((i, v) ∷ u) w (j, e) = go (λ h. clash_from u w (j, h)) (eqb j i) refl e
  where
    go : (clash_at (lookup u j) (lookup w j) ≡ true → clash u w ≡ true) → (b : Bool) → eqb j i ≡ b →
        clash_at (cond b (Some v) (lookup u j)) (lookup w j) ≡ true → (stands w i || clash u w) ≡ true
    go ih true d h = or_left (stands w i) (clash u w) (rw (eqb-true j i d) at h)
    go ih false d h = or_right (stands w i) (clash u w) (ih h)

pub clash_agrees : ClashAgrees
clash_agrees u w = (clash_some u w, clash_from u w)

-- any two writes to one object clash
pub clash_both : (u w : Option ℕ) → is_some u ≡ true → is_some w ≡ true → clash_at u w ≡ true
clash_both None w p q = p
clash_both (Some v) w p q = q

-- today's rule: write sets clash where they share an object
pub clash_is_sharing : ClashIsSharing
clash_is_sharing [] w = refl
clash_is_sharing ((i, v) ∷ u) w = ap (λ b. stands w i || b) (clash_is_sharing u w)

-- the clash of functions that agree
pub clashing_same : (u w x y : ℕ → Option ℕ) → ((j : ℕ) → u j ≡ x j) → ((j : ℕ) → w j ≡ y j) → Clashing u w → Clashing x y
clashing_same u w x y p q (j, e) = (j, rw (← (p j), ← (q j)) e)
