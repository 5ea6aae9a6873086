-- Own writes played over a board one by one, from the lowest. Assumes nothing.
use Rattle.std.proofs.Common.{◌≡◌, ℕ, zero, suc, ◌+◌, ◌<◌, ◌≤◌, Bool, true, false, cond, List, [], ◌∷◌, length, get_or, set, Some, None, sym, refl, ap, ◌∙◌, ⊎_elim, arith}
use Rattle.std.specs.Prelude.{All, fold}
use Rattle.std.specs.List.{filter, range_with_len}
use Rattle.std.proofs.lemmas.List.{length-set, get_or-set_same, get_or-set_other, ext_get_or}
use Rattle.std.proofs.lemmas.List.Elements.{All-filter}
use Rattle.std.proofs.lemmas.List.FromFn.{length-range_with_len, get_or-range_with_len}
use Rattle.std.proofs.lemmas.Bool.{cases_eq}
use Rattle.marks.specs.declared.marks.Marks.{Marks}
use Rattle.marks.specs.Marked.{marked}
use Rattle.marks.specs.Objects.{marked_from}
use Rattle.stores.specs.Model.{or_else, played}
use Rattle.stores.proofs.Steps.{length-played, get_or-played}

-- a board with the values of these objects taken from a list of values
abbrev pub with_values : List ℕ → List ℕ → List ℕ → List ℕ
with_values values board objects = fold (λ b j. set b j (get_or values j 0)) board objects

module _ (values : List ℕ) where
  pub length-with_values : (b js : List ℕ) → length (with_values values b js) ≡ length b
  length-with_values b [] = refl
  length-with_values b (j ∷ js) = length-with_values (set b j (get_or values j 0)) js ∙ length-set b j (get_or values j 0)

  module _ (m : ℕ → Bool) where
    one : Bool → List ℕ → ℕ → List ℕ
    one t b j = cond t (set b j (get_or values j 0)) b

    turn : (t : Bool) (b : List ℕ) (j : ℕ) (js : List ℕ) → with_values values b (cond t (j ∷ js) js) ≡ with_values values (one t b j) js
    unfolding one
    turn true b j js = refl
    turn false b j js = refl

    length-one : (t : Bool) (b : List ℕ) (j : ℕ) → length (one t b j) ≡ length b
    unfolding one
    length-one true b j = length-set b j (get_or values j 0)
    length-one false b j = refl

    one-other : (t : Bool) (b : List ℕ) (j k : ℕ) → (k ≡ j → ⊥) → get_or (one t b j) k 0 ≡ get_or b k 0
    unfolding one
    one-other true b j k ne = get_or-set_other b j k (get_or values j 0) 0 ne
    one-other false b j k ne = refl

    one-same : (t : Bool) (b : List ℕ) (j : ℕ) → j < length b → get_or (one t b j) j 0 ≡ or_else (cond t (Some (get_or values j 0)) None) (get_or b j 0)
    unfolding one
    one-same true b j h = get_or-set_same b j (get_or values j 0) 0 h
    one-same false b j h = refl

    -- what lies before the objects played is as it was
    before : (n j k : ℕ) (b : List ℕ) → k < j → get_or (with_values values b (filter m (range_with_len j n))) k 0 ≡ get_or b k 0
    before zero j k b h = refl
    before (suc n) j k b h =
        ap (λ xs. get_or xs k 0) (turn (m j) b j (filter m (range_with_len (j + 1) n)))
        ∙ before n (j + 1) k (one (m j) b j) (omega arith) ∙ one-other (m j) b j k (λ e. omega arith)

    -- and each of them has its own value, or what was there
    each : (n j k : ℕ) (b : List ℕ) → j ≤ k → k < j + n → k < length b → get_or (with_values values b (filter m (range_with_len j n))) k 0 ≡ or_else (cond (m k) (Some (get_or values k 0)) None) (get_or b k 0)
    each zero j k b l h w = absurd (omega arith)
    each (suc n) j k b l h w =
        ap (λ xs. get_or xs k 0) (turn (m j) b j (filter m (range_with_len (j + 1) n)))
        ∙ ⊎_elim here (λ ne. each n (j + 1) k (one (m j) b j) (omega (arith, ne)) (omega arith) (omega (arith, length-one (m j) b j))
        ∙ ap (or_else (cond (m k) (Some (get_or values k 0)) None)) (one-other (m j) b j k ne)) (cases_eq k j)
      where
        here : k ≡ j → get_or (with_values values (one (m j) b j) (filter m (range_with_len (j + 1) n))) k 0 ≡ or_else (cond (m k) (Some (get_or values k 0)) None) (get_or b k 0)
        here e =
            before n (j + 1) k (one (m j) b j) (omega arith)
            ∙ ap (λ i. get_or (one (m j) b j) i 0) e
            ∙ one-same (m j) b j (omega arith)
            ∙ ap (λ i. or_else (cond (m i) (Some (get_or values i 0)) None) (get_or b i 0)) (sym e)

-- played one by one, all are played
pub plays_all : (w : Marks) (values b : List ℕ) → length b ≡ 128 → with_values values b (marked_from w 0) ≡ played (λ j. cond (marked w j) (Some (get_or values j 0)) None) b
unfolding marked_from
plays_all w values b whole =
    let own = λ (j : ℕ). cond (marked w j) (Some (get_or values j 0)) None in
    let objects = filter (marked w) (range_with_len 0 128) in
    ext_get_or 0 (with_values values b objects) (played own b) (length-with_values values b objects ∙ sym (length-played own b))
    (λ k h.
    let within : k < length b = omega (arith, length-with_values values b objects) in
    each values (marked w) 128 0 k b (omega arith) (omega (arith, whole)) within ∙ sym (get_or-played own b k within))

-- each is an object
pub objects_within : (w : Marks) → All (λ j. j < 128) (marked_from w 0)
unfolding marked_from
objects_within w = All-filter (marked w) (λ j. j < 128) (range_with_len 0 128) (λ k d h. let l : k < 128 = omega (arith, length-range_with_len 0 128) in omega (arith, get_or-range_with_len 0 128 k d l))

-- one more is played
module _ (values b : List ℕ) (j : ℕ) (old new : List ℕ) (first : old ≡ j ∷ new) where
  pub plays_one : (w : List ℕ) → with_values values b old ≡ w → with_values values (set b j (get_or values j 0)) new ≡ w
  plays_one w same = ap (with_values values b) (sym first) ∙ same

  pub within_then : All (λ i. i < 128) old → All (λ i. i < 128) new
  within_then all k d h = let l : suc k < length old = omega (arith, ap length first) in omega (arith, all (suc k) d l, ap (λ xs. get_or xs (suc k) d) first)
