-- A place's own writes, as its marks and its kept values give them. Assumes nothing.
use Rattle.std.proofs.Common.{◌≡◌, ℕ, zero, suc, ◌+◌, ◌<◌, ◌≤◌, Bool, true, false, cond, ◌&&◌, ◌||◌, eqb, ltb, List, length, get_or, set, is_some, Some, None, Ok, Option, sym, refl, ap, ◌∙◌, ⊎_elim, arith}
use Rattle.std.proofs.lemmas.List.{get_or-set_same, get_or-set_other}
use Rattle.std.proofs.lemmas.Bool.{cases_eq, lt-ltb, eq-eqb, ne_eqb, ltb-true}
use Rattle.tickets.specs.declared.pair.Pair.{Pair}
use Rattle.marks.specs.declared.marks.Marks.{Marks}
use Rattle.marks.specs.Marked as marks
use Rattle.marks.specs.Marked.{marked, with_mark, lowest_from, both}
use Rattle.marks.proofs.Scans.{count_with}
use Rattle.stores.specs.Model as model
use Rattle.stores.specs.Model.{written, own_count, clashes, write_at, with_own, with_write, first_from, told_or}
use Rattle.copy_store.specs.declared.place.Place.{Place}
use Rattle.copy_store.specs.Places.{own_of, place_of}

-- ---- counted, compared and told by marks

count_alike : (f : ℕ → Bool) (n : ℕ) → marks.count_below f n ≡ model.count_below f n
unfolding marks.count_below model.count_below
count_alike f zero = refl
count_alike f (suc n) = ap (λ k. cond (f n) 1 0 + k) (count_alike f n)

any_alike : (f : ℕ → Bool) (n : ℕ) → marks.any_below f n ≡ model.any_below f n
unfolding marks.any_below model.any_below
any_alike f zero = refl
any_alike f (suc n) = ap (λ b. f n || b) (any_alike f n)

some_if : (b : Bool) (v : ℕ) → is_some (cond b (Some v) None) ≡ b
some_if true v = refl
some_if false v = refl

pub written_is : (x : Place) → written (place_of x) ≡ marked x.wrote
written_is x = λ i j. some_if (marked x.wrote j) (get_or x.own j 0) i

pub count_is : (x : Place) → marks.count_below (marked x.wrote) 128 ≡ own_count (place_of x)
count_is x = count_alike (marked x.wrote) 128 ∙ ap (λ f. model.count_below f 128) (sym (written_is x))

pub clashes_is : (x : Place) → marks.any_below (both (marked x.wrote) (marked x.overtaken)) 128 ≡ clashes (place_of x)
clashes_is x =
    any_alike (both (marked x.wrote) (marked x.overtaken)) 128
    ∙ ap (λ f. model.any_below (λ j. f j && marked x.overtaken j) 128) (sym (written_is x))

-- the pair of an object that was found
abbrev pub shown : (ℕ → ℕ) → Option ℕ → Option Pair
shown v (Some k) = Some (record { object = k; value = v k })
shown v None = None

shown_step : (b : Bool) (v : ℕ → ℕ) (j : ℕ) (o : Option ℕ) (w : Option Pair) → shown v o ≡ w → shown v (cond b (Some j) o) ≡ told_or j (cond b (Some (v j)) None) w
shown_step true v j o w e = refl
shown_step false v j o w e = e

pub told_is_the_lowest : (f : ℕ → Bool) (v : ℕ → ℕ) (j n : ℕ) → shown v (lowest_from f j n) ≡ first_from (λ k. cond (f k) (Some (v k)) None) j n
unfolding lowest_from first_from
told_is_the_lowest f v j zero = refl
told_is_the_lowest f v j (suc n) = shown_step (f j) v j (lowest_from f (j + 1) n) _ (told_is_the_lowest f v (j + 1) n)

-- ---- one more own write

pub write_taken : (x : Place) (j v : ℕ) → j < 128 → (written (place_of x) j || ltb (own_count (place_of x)) 8) ≡ true → write_at j v (place_of x) ≡ Ok (with_own (place_of x) j v)
write_taken x j v h room = let object : ltb j 128 ≡ true = lt-ltb j 128 h in rw (object, room)

at_most_eight : (b : Bool) (n : ℕ) → n ≤ 8 → (b || ltb n 8) ≡ true → cond b 0 1 + n ≤ 8
at_most_eight true n l room = omega arith
at_most_eight false n l room = omega (arith, ltb-true n 8 room)

module _ (x : Place) (j v : ℕ) (h : j < 128) (w : Marks) (one_more : marked w ≡ with_mark 128 j true (marked x.wrote)) where
  marked_now : marked w ≡ (λ k. cond (eqb k j) true (marked x.wrote k))
  marked_now = let e : ltb j 128 ≡ true = lt-ltb j 128 h in one_more ∙ ap (λ b. cond b (λ k. cond (eqb k j) true (marked x.wrote k)) (marked x.wrote)) e

  -- the marks and the values with it are the own writes with it
  pub own_with : length x.own ≡ 128 → own_of (record { snapshot = x.snapshot; own = set x.own j v; wrote = w; overtaken = x.overtaken }) ≡ with_write (own_of x) j v
  own_with whole = λ i k. (ap (λ f. cond (f k) (Some (get_or (set x.own j v) k 0)) None) marked_now ∙ ⊎_elim (here k) (elsewhere k) (cases_eq k j)) i
    where
      here : (k : ℕ) → k ≡ j → cond (cond (eqb k j) true (marked x.wrote k)) (Some (get_or (set x.own j v) k 0)) None ≡ with_write (own_of x) j v k
      here k q =
          let e : eqb k j ≡ true = eq-eqb k j q in
          let new : get_or (set x.own j v) k 0 ≡ v = ap (λ n. get_or (set x.own j v) n 0) q ∙ get_or-set_same x.own j v 0 (omega arith) in
          rw (e, new)

      elsewhere : (k : ℕ) → (k ≡ j → ⊥) → cond (cond (eqb k j) true (marked x.wrote k)) (Some (get_or (set x.own j v) k 0)) None ≡ with_write (own_of x) j v k
      elsewhere k ne =
          let e : eqb k j ≡ false = ne_eqb k j ne in
          let old : get_or (set x.own j v) k 0 ≡ get_or x.own k 0 = get_or-set_other x.own j k v 0 ne in
          rw (e, old)

  -- and they are at most eight still
  pub still_few : (own : List ℕ) → (written (place_of x) j || ltb (own_count (place_of x)) 8) ≡ true → own_count (place_of x) ≤ 8
      → own_count (place_of (record { snapshot = x.snapshot; own = own; wrote = w; overtaken = x.overtaken })) ≤ 8
  still_few own room few =
      let y : Place = record { snapshot = x.snapshot; own = own; wrote = w; overtaken = x.overtaken } in
      let grown : own_count (place_of y) ≡ cond (marked x.wrote j) 0 1 + own_count (place_of x) =
      sym (count_is y) ∙ ap (λ f. marks.count_below f 128) marked_now ∙ count_with (marked x.wrote) j 128 h ∙ ap (λ n. cond (marked x.wrote j) 0 1 + n) (count_is x) in
      let b : (marked x.wrote j || ltb (own_count (place_of x)) 8) ≡ true = ap (λ f. f j || ltb (own_count (place_of x)) 8) (sym (written_is x)) ∙ room in
      omega (arith, grown, at_most_eight (marked x.wrote j) (own_count (place_of x)) few b)
