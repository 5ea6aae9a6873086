-- Own writes: looked up, put, rising.
use Rattle.std.proofs.Common.{◌≡◌, ℕ, suc, ◌<◌, ◌≤◌, Bool, true, false, cond, ◌&&◌, eqb, ltb, leb, ◌⊎◌, [], ◌∷◌, length, is_some, Some, None, Option, sym, refl, ap, ◌∙◌, inl, inr, arith}
use Rattle.std.proofs.lemmas.List.{ext_get_or}
use Rattle.std.proofs.lemmas.Bool.{and_from, and_parts, both_ways, eq-eqb, eqb-false, eqb-true, le-leb, leb-true, lt-ltb, ltb-false, ltb-true, or_cases}
use Rattle.std.proofs.lemmas.Bool.Decides.{nat_tests}
use Rattle.tickets.specs.Boards.{Board}
use Rattle.tickets.specs.WriteSets.{Pairs, is_write_set, lookup, play, rising, stands}
use Rattle.tickets.proofs.Playing.{length-play, value_play}
use Rattle.law.specs.Orderly.{Fine}
use Rattle.law.specs.Writes.{is_empty, put, room}

-- rising pairs, by their first
pub rising_parts : (low j v : ℕ) (u : Pairs) → rising low ((j, v) ∷ u) ≡ true → (low ≤ j) × (j < 128) × (rising (suc j) u ≡ true)
rising_parts low j v u e =
    let a = and_parts (leb low j) (ltb j 128 && rising (suc j) u) e in
    let b = and_parts (ltb j 128) (rising (suc j) u) a.1 in
    (leb-true low j a.0, ltb-true j 128 b.0, b.1)

pub rising_from : (low j v : ℕ) (u : Pairs) → low ≤ j → j < 128 → rising (suc j) u ≡ true → rising low ((j, v) ∷ u) ≡ true
rising_from low j v u a b e = and_from (leb low j) (ltb j 128 && rising (suc j) u) (le-leb low j a) (and_from (ltb j 128) (rising (suc j) u) (lt-ltb j 128 b) e)

some_cond : (b : Bool) (v : ℕ) (o : Option ℕ) → is_some (cond b (Some v) o) ≡ true → (b ≡ true) ⊎ (is_some o ≡ true)
some_cond true v o e = inl refl
some_cond false v o e = inr e

-- an object of rising pairs lies from the first bound on, and below 128
pub rising_object : (low : ℕ) (u : Pairs) → rising low u ≡ true → (o : ℕ) → stands u o ≡ true → (low ≤ o) × (o < 128)
rising_object low [] r o e = absurd (both_ways false refl e)
rising_object low ((j, v) ∷ u) r o e = go (λ c d. rising_object (suc j) u c o d) (rising_parts low j v u r) (some_cond (eqb o j) v (lookup u o) e)
  where
    go : (rising (suc j) u ≡ true → stands u o ≡ true → (suc j ≤ o) × (o < 128)) → (low ≤ j) × (j < 128) × (rising (suc j) u ≡ true) →
        (eqb o j ≡ true) ⊎ (stands u o ≡ true) → (low ≤ o) × (o < 128)
    go ih (a, b, c) (inl d) = let s : o ≡ j = eqb-true o j d in (omega arith, omega arith)
    go ih (a, b, c) (inr d) = let h = ih c d in (omega (arith, h.0), h.1)

pub lookup_put : (j v : ℕ) (u : Pairs) (i : ℕ) → lookup (put j v u) i ≡ cond (eqb i j) (Some v) (lookup u i)
lookup_put j v [] i = refl
lookup_put j v ((a, x) ∷ u) i = let ih = lookup_put j v u i in grind (arith, nat_tests)

pub put_length : (j v : ℕ) (u : Pairs) → length (put j v u) ≤ suc (length u)
put_length j v [] = omega arith
put_length j v ((i, x) ∷ u) = let ih = put_length j v u in grind arith

-- an object that is written already
pub put_again : (low j v : ℕ) (u : Pairs) → rising low u ≡ true → stands u j ≡ true → length (put j v u) ≡ length u
put_again low j v [] r e = absurd (both_ways false refl e)
put_again low j v ((i, x) ∷ u) r e = go (λ c z. put_again (suc i) j v u c z) (rising_parts low i x u r).2 (eqb j i) (ltb j i) refl refl e
  where
    go : (rising (suc i) u ≡ true → stands u j ≡ true → length (put j v u) ≡ length u) → rising (suc i) u ≡ true → (a b : Bool) → eqb j i ≡ a →
        ltb j i ≡ b → is_some (cond a (Some x) (lookup u j)) ≡ true →
        length (cond a ((j, v) ∷ u) (cond b ((j, v) ∷ (i, x) ∷ u) ((i, x) ∷ put j v u))) ≡ suc (length u)
    go ih c true b p q z = refl
    go ih c false true p q z = absurd (omega (arith, (rising_object (suc i) u c j z).0, ltb-true j i q))
    go ih c false false p q z = ap suc (ih c z)

pub put_rising : (low j v : ℕ) (u : Pairs) → low ≤ j → j < 128 → rising low u ≡ true → rising low (put j v u) ≡ true
put_rising low j v [] l m r = rising_from low j v [] l m refl
put_rising low j v ((i, x) ∷ u) l m r = go (λ d c. put_rising (suc i) j v u d m c) (rising_parts low i x u r) (eqb j i) (ltb j i) refl refl
  where
    go : (suc i ≤ j → rising (suc i) u ≡ true → rising (suc i) (put j v u) ≡ true) → (low ≤ i) × (i < 128) × (rising (suc i) u ≡ true) →
        (a b : Bool) → eqb j i ≡ a → ltb j i ≡ b → rising low (cond a ((j, v) ∷ u) (cond b ((j, v) ∷ (i, x) ∷ u) ((i, x) ∷ put j v u))) ≡ true
    go ih (a, b, c) true t p q = let e : j ≡ i = eqb-true j i p in rising_from low j v u l m (rw e c)
    go ih (a, b, c) false true p q = let d : j < i = ltb-true j i q in rising_from low j v ((i, x) ∷ u) l m (rising_from (suc j) i x u d b c)
    go ih (a, b, c) false false p q = let d : i ≤ j = ltb-false j i q in let n : j ≡ i → ⊥ = eqb-false j i p in rising_from low i x (put j v u) a b (ih (omega arith) c)

pub put_fine : (j v : ℕ) (u : Pairs) → j < 128 → room j u ≡ true → Fine u → Fine (put j v u)
put_fine j v u small space f = record { rising = put_rising 0 j v u (omega arith) small f.rising; few = fits (or_cases (stands u j) (ltb (length u) 8) space) }
  where
    fits : (stands u j ≡ true) ⊎ (ltb (length u) 8 ≡ true) → length (put j v u) ≤ 8
    fits (inl e) = omega (arith, put_again 0 j v u f.rising e, f.few)
    fits (inr e) = omega (arith, put_length j v u, ltb-true (length u) 8 e)

pub fine_object : (u : Pairs) → Fine u → (o : ℕ) → stands u o ≡ true → o < 128
fine_object u f o e = (rising_object 0 u f.rising o e).1

-- a write set is own writes, and some
pub set_fine : (u : Pairs) → is_write_set u ≡ true → Fine u
set_fine u e =
    let a = and_parts (ltb 0 (length u)) (leb (length u) 8 && rising 0 u) e in
    let b = and_parts (leb (length u) 8) (rising 0 u) a.1 in
    record { rising = b.1; few = leb-true (length u) 8 b.0 }

pub set_full : (u : Pairs) → is_write_set u ≡ true → is_empty u ≡ false
set_full [] e = sym e
set_full (x ∷ u) e = refl

pub fine_set : (u : Pairs) → Fine u → is_empty u ≡ false → is_write_set u ≡ true
fine_set [] f e = absurd (both_ways true e refl)
fine_set (x ∷ u) f e = and_from (ltb 0 (suc (length u))) (leb (suc (length u)) 8 && rising 0 (x ∷ u)) (lt-ltb 0 (suc (length u)) (omega arith)) (and_from (leb (suc (length u)) 8) (rising 0 (x ∷ u)) (le-leb (suc (length u)) 8 f.few) f.rising)

pub some_object : (u : Pairs) → is_empty u ≡ false → (o : ℕ) × (stands u o ≡ true)
some_object [] g = absurd (both_ways true g refl)
some_object ((j, v) ∷ u) g = (j, rw (eq-eqb j j refl))

pub object_full : (u : Pairs) (o : ℕ) → stands u o ≡ true → is_empty u ≡ false
object_full [] o e = sym e
object_full (x ∷ u) o e = refl

pub empty_none : (u : Pairs) (j : ℕ) → is_empty u ≡ true → lookup u j ≡ None
empty_none [] j e = refl
empty_none (x ∷ u) j e = absurd (both_ways false refl e)

-- an object of the rest is an object of all
pub stands_more : (o j v : ℕ) (u : Pairs) → stands u o ≡ true → stands ((j, v) ∷ u) o ≡ true
stands_more o j v u e = go (eqb o j)
  where
    go : (a : Bool) → is_some (cond a (Some v) (lookup u o)) ≡ true
    go true = refl
    go false = e

-- pairs with the same values play alike
pub play_same : (u w : Pairs) (b : Board) → ((o : ℕ) → lookup u o ≡ lookup w o) → play u b ≡ play w b
play_same u w b e = ext_get_or 0 (play u b) (play w b) (length-play u b ∙ sym (length-play w b)) (λ i l. value_play u b i (omega (arith, length-play u b)) ∙ (rw (e i) (sym (value_play w b i (omega (arith, length-play u b))))))
