-- Own writes as a function of the object, and as the list of their pairs in rising order.
use Rattle.std.proofs.Common.{◌≡◌, ℕ, zero, suc, ◌+◌, ◌<◌, ◌≤◌, Bool, true, false, cond, ◌&&◌, ◌||◌, eqb, ◌≢◌, ◌⊎◌, [], ◌∷◌, length, get_or, is_some, Some, None, Option, sym, refl, ap, ◌∙◌, inl, inr, ⊎_elim, arith}
use Rattle.std.proofs.lemmas.List.{ext_get_or}
use Rattle.std.proofs.lemmas.Bool.{cases_eq, cases_lt, eq-eqb, ne_eqb, lt-ltb, le-ltb}
use Rattle.tickets.specs.Boards.{Board}
use Rattle.tickets.specs.WriteSets.{Pairs, lookup, play, over}
use Rattle.tickets.proofs.Playing.{value_play, length-play}
use Rattle.stores.specs.Model.{no_writes, with_write, count_below, any_below, or_else, played}
use Rattle.stores.proofs.Steps.{length-played, get_or-played}
use Rattle.errands.specs.Own.{told_pair, pairs_from}
use Rattle.errands.proofs.Told.{length-own}
use Rattle.law.specs.Store.{is_overtaken}
use Rattle.law.specs.Writes.{put, is_empty}
use Rattle.refinement.specs.Stores.{all_pairs}

-- ---- what the pairs have for an object

-- what is told of the object j, and of the others
lookup_told : (j i : ℕ) (o : Option ℕ) (ps : Pairs) → lookup (told_pair j o ps) i ≡ cond (eqb i j && is_some o) o (lookup ps i)
lookup_told j i (Some v) ps = go (eqb i j)
  where
    go : (b : Bool) → cond b (Some v) (lookup ps i) ≡ cond (b && true) (Some v) (lookup ps i)
    go true = refl
    go false = refl
lookup_told j i None ps = go (eqb i j)
  where
    go : (b : Bool) → lookup ps i ≡ cond (b && false) None (lookup ps i)
    go true = refl
    go false = refl

module _ (own : ℕ → Option ℕ) where
  -- an object that is not told has no pair
  none_elsewhere : (j n i : ℕ) → (i < j) ⊎ (j + n ≤ i) → lookup (pairs_from own j n) i ≡ None
  unfolding pairs_from
  none_elsewhere j zero i out = refl
  none_elsewhere j (suc n) i (inl l) = lookup_told j i (own j) (pairs_from own (j + 1) n) ∙ rw (ne_eqb i j (omega arith)) (none_elsewhere (j + 1) n i (inl (omega arith)))
  none_elsewhere j (suc n) i (inr l) = lookup_told j i (own j) (pairs_from own (j + 1) n) ∙ rw (ne_eqb i j (omega arith)) (none_elsewhere (j + 1) n i (inr (omega arith)))

  told_within : (j n i : ℕ) → j ≤ i → i < j + n → lookup (pairs_from own j n) i ≡ own i
  unfolding pairs_from
  told_within j zero i l m = absurd (omega arith)
  told_within j (suc n) i l m = lookup_told j i (own j) rest ∙ go (λ x. told_within (j + 1) n i x (omega arith)) (cases_eq i j)
    where
      rest : Pairs
      rest = pairs_from own (j + 1) n

      here : (o : Option ℕ) → lookup rest j ≡ None → cond (true && is_some o) o (lookup rest j) ≡ o
      here (Some v) e = refl
      here None e = e

      go : (j + 1 ≤ i → lookup rest i ≡ own i) → (i ≡ j) ⊎ (i ≡ j → ⊥) → cond (eqb i j && is_some (own j)) (own j) (lookup rest i) ≡ own i
      go ih (inl e) = rw (e, eq-eqb j j refl) (here (own j) (none_elsewhere (j + 1) n j (inl (omega arith))))
      go ih (inr e) = rw (ne_eqb i j e) (ih (omega arith))

-- ---- an overtaken object among the pairs

any_none : (f : ℕ → Bool) → any_below f 0 ≡ false
unfolding any_below
any_none f = refl

any_next : (f : ℕ → Bool) (j : ℕ) → any_below f (j + 1) ≡ (f j || any_below f j)
unfolding any_below
any_next f j = let d : j + 1 ≡ suc j = omega arith in ap (any_below f) d

module _ (own : ℕ → Option ℕ) (f : ℕ → Bool) where
  abbrev pub clash_at : ℕ → Bool
  clash_at i = is_some (own i) && f i

  overtaken_among : (j n : ℕ) → (is_overtaken (pairs_from own j n) f || any_below clash_at j) ≡ any_below clash_at (j + n)
  unfolding pairs_from
  overtaken_among j zero = let e : j ≡ j + 0 = omega arith in ap (any_below clash_at) e
  overtaken_among j (suc n) = go (own j) refl ∙ (overtaken_among (j + 1) n ∙ ap (any_below clash_at) (omega arith))
    where
      rest : Pairs
      rest = pairs_from own (j + 1) n

      swapped : (a b c : Bool) → ((a || b) || c) ≡ (b || (a || c))
      swapped true true c = refl
      swapped true false c = refl
      swapped false b c = refl

      go : (o : Option ℕ) → own j ≡ o → (is_overtaken (told_pair j o rest) f || any_below clash_at j) ≡ (is_overtaken rest f || any_below clash_at (j + 1))
      go (Some v) d = rw (any_next clash_at j, ap is_some d) (swapped (f j) (is_overtaken rest f) (any_below clash_at j))
      go None d = rw (any_next clash_at j, ap is_some d) refl

-- ---- one more write

module _ (own : ℕ → Option ℕ) where
  -- what is written below does not count
  unmoved : (own' : ℕ → Option ℕ) (j n : ℕ) → ((i : ℕ) → j ≤ i → own' i ≡ own i) → pairs_from own' j n ≡ pairs_from own j n
  unfolding pairs_from
  unmoved own' j zero h = refl
  unmoved own' j (suc n) h = rw (h j (omega arith), unmoved own' (j + 1) n (λ i l. h i (omega arith)))

  -- a write to an object below all pairs stands in front
  in_front : (j v i n : ℕ) → j < i → put j v (pairs_from own i n) ≡ (j, v) ∷ pairs_from own i n
  unfolding pairs_from
  in_front j v i zero l = refl
  in_front j v i (suc n) l = go (in_front j v (i + 1) n (omega arith)) (own i)
    where
      rest : Pairs
      rest = pairs_from own (i + 1) n

      go : put j v rest ≡ (j, v) ∷ rest → (o : Option ℕ) → put j v (told_pair i o rest) ≡ (j, v) ∷ told_pair i o rest
      go ih (Some u) = rw (ne_eqb j i (omega arith), lt-ltb j i l) refl
      go ih None = ih

  with_write_same : (j v : ℕ) → with_write own j v j ≡ Some v
  with_write_same j v = rw (eq-eqb j j refl) refl

  with_write_other : (j v i : ℕ) → i ≢ j → with_write own j v i ≡ own i
  with_write_other j v i n = rw (ne_eqb i j n) refl

  -- it is put among the pairs
  put_among : (j v i n : ℕ) → i ≤ j → j < i + n → pairs_from (with_write own j v) i n ≡ put j v (pairs_from own i n)
  unfolding pairs_from
  put_among j v i zero l m = absurd (omega arith)
  put_among j v i (suc n) l m = go (λ x. put_among j v (i + 1) n x (omega arith)) (cases_eq i j)
    where
      rest : Pairs
      rest = pairs_from own (i + 1) n

      rest' : Pairs
      rest' = pairs_from (with_write own j v) (i + 1) n

      here : (o : Option ℕ) → (i, v) ∷ rest ≡ put i v (told_pair i o rest)
      here (Some u) = rw (eq-eqb i i refl) refl
      here None = sym (in_front i v (i + 1) n (omega arith))

      later : (o : Option ℕ) → i < j → rest' ≡ put j v rest → told_pair i o rest' ≡ put j v (told_pair i o rest)
      later (Some u) b ih = rw (ne_eqb j i (omega arith), le-ltb j i (omega arith), ih) refl
      later None b ih = ih

      go : (i + 1 ≤ j → rest' ≡ put j v rest) → (i ≡ j) ⊎ (i ≡ j → ⊥) → told_pair i (with_write own j v i) rest' ≡ put j v (told_pair i (own i) rest)
      go ih (inl e) =
          rw (← e, with_write_same i v, unmoved (with_write own i v) (i + 1) n (λ k b. with_write_other i v k (omega arith))) (here (own i))
      go ih (inr e) = rw (with_write_other j v i e) (later (own i) (omega arith) (ih (omega arith)))

-- ---- all 128 objects

pub same_else : (o : Option ℕ) (x : ℕ) → or_else o x ≡ over o x
same_else (Some v) x = refl
same_else None x = refl

none_written : (j n : ℕ) → pairs_from no_writes j n ≡ []
unfolding pairs_from
none_written j zero = refl
none_written j (suc n) = none_written (j + 1) n

pub pairs_of_none : all_pairs no_writes ≡ []
pairs_of_none = none_written 0 128

-- no object past the last is written
abbrev pub Within : (ℕ → Option ℕ) → Type 0
Within own = (j : ℕ) → 128 ≤ j → own j ≡ None

module _ (own : ℕ → Option ℕ) where
  pub lookup_below : (i : ℕ) → i < 128 → lookup (all_pairs own) i ≡ own i
  lookup_below i l = told_within own 0 128 i (omega arith) (omega arith)

  -- there are as many pairs as objects are written
  pub pairs_count : length (all_pairs own) ≡ count_below (λ i. is_some (own i)) 128
  pairs_count = length-own own 128

  pub pairs_empty : is_empty (all_pairs own) ≡ eqb (count_below (λ i. is_some (own i)) 128) 0
  pairs_empty = go (all_pairs own) ∙ ap (λ n. eqb n 0) pairs_count
    where
      go : (ps : Pairs) → is_empty ps ≡ eqb (length ps) 0
      go [] = refl
      go (p ∷ ps) = sym (ne_eqb (suc (length ps)) 0 (omega arith))

  pub pairs_overtaken : (f : ℕ → Bool) → is_overtaken (all_pairs own) f ≡ any_below (clash_at own f) 128
  pairs_overtaken f = sym (or_false (is_overtaken (all_pairs own) f)) ∙ (ap (λ b. is_overtaken (all_pairs own) f || b) (sym (any_none (clash_at own f))) ∙ overtaken_among own f 0 128)
    where
      or_false : (b : Bool) → (b || false) ≡ b
      or_false true = refl
      or_false false = refl

  pub pairs_written : (j v : ℕ) → j < 128 → all_pairs (with_write own j v) ≡ put j v (all_pairs own)
  pairs_written j v l = put_among own j v 0 128 (omega arith) (omega arith)

  pub pairs_played : (b : Board) → length b ≡ 128 → played own b ≡ play (all_pairs own) b
  pairs_played b l = ext_get_or 0 (played own b) (play (all_pairs own) b) (length-played own b ∙ sym (length-play (all_pairs own) b)) (λ j h. at j (omega (arith, length-played own b)))
    where
      at : (j : ℕ) → j < length b → get_or (played own b) j 0 ≡ get_or (play (all_pairs own) b) j 0
      at j h =
          get_or-played own b j h ∙ (same_else (own j) (get_or b j 0)
          ∙ (ap (λ (o : Option ℕ). over o (get_or b j 0)) (sym (lookup_below j (omega arith))) ∙ sym (value_play (all_pairs own) b j h)))

  pub lookup_own : Within own → (i : ℕ) → lookup (all_pairs own) i ≡ own i
  lookup_own within i = ⊎_elim (lookup_below i) (λ (l : 128 ≤ i). none_elsewhere own 0 128 i (inr (omega arith)) ∙ sym (within i l)) (cases_lt i 128)
