-- A store whose places mean what stands in its seats: what is done with the seats is done with the places. Assumes nothing.
use Rattle.std.proofs.Common.{◌≡◌, ℕ, ◌<◌, ◌≤◌, Bool, true, false, cond, ltb, List, map, length, get_or, set, Some, None, Ok, Err, Option, Result, sym, refl, ap, ◌∙◌, ⊎_elim, subst, arith}
use Rattle.std.specs.Option.{option_map}
use Rattle.std.proofs.lemmas.List.{length-map, get_or-map, map-set, ext_get_or}
use Rattle.std.proofs.lemmas.Bool.{cases_lt, le-ltb}
use Rattle.stores.specs.declared.fault.StoreFault.{StoreFault}
use Rattle.stores.specs.declared.fault.StoreFault.TheVariants.{NoPlace}
use Rattle.stores.specs.Model.{StoreModel, Place, held, vacant, seat_in, bind, done, leaves, kept, fresh, write_at, with_place, place_at, begin_answer, begin_after, write_answer, write_after, abort_after, overtaken_by}
use Rattle.stores.specs.Seated.{held_in, vacant_in, opened, OpenedWith, Changed, Updates, SeatChanged, ChangesEach}
use Rattle.stores.proofs.Seated.{in_seat, closed_again}
use Rattle.stores.proofs.Steps.{seat_has, same_place, kept_leaves}

-- a store with other places
abbrev pub with_places : StoreModel → List (Option Place) → StoreModel
with_places m ps = record { board = m.board; commits = m.commits; most = m.most; places = ps }

bind_cond : {A B : Type 0} (b : Bool) (r : Result A StoreFault) (g : A → Result B StoreFault) → bind (cond b r (Err NoPlace)) g ≡ cond b (bind r g) (Err NoPlace)
bind_cond true r g = refl
bind_cond false r g = refl

module _ {X : Type 0} (f : X → Place) (xs : List (Option X)) (p : ℕ) where
  -- an answer by what stands in the seat is one by what it means, where the two say the same
  seat_seen : {A : Type 0} (g : Option Place → Result A StoreFault) (k : Option X → Result A StoreFault) → ((o : Option X) → g (option_map f o) ≡ k o) → seat_in (map (option_map f) xs) p g ≡ seat_in xs p k
  seat_seen g k same = ⊎_elim inside outside (cases_lt p (length xs))
    where
      inside : p < length xs → seat_in (map (option_map f) xs) p g ≡ seat_in xs p k
      inside h =
          in_seat (map (option_map f) xs) p (option_map f (get_or xs p None)) g (omega (arith, length-map xs (option_map f))) (get_or-map (option_map f) xs p None None h)
          ∙ same (get_or xs p None) ∙ sym (in_seat xs p (get_or xs p None) k h refl)

      outside : length xs ≤ p → seat_in (map (option_map f) xs) p g ≡ seat_in xs p k
      outside h =
          let l : ltb p (length xs) ≡ false = le-ltb p _ h in
          let m : ltb p (length (map (option_map f) xs)) ≡ false = le-ltb p _ (omega (arith, length-map xs (option_map f))) in
          rw (l, m)

  held_alike : (o : Option X) → held (option_map f o) ≡ bind (held o) (λ x. Ok (f x))
  held_alike (Some x) = refl
  held_alike None = refl

  vacant_alike : (o : Option X) → vacant (option_map f o) ≡ vacant o
  vacant_alike (Some x) = refl
  vacant_alike None = refl

  pub held_seen : held_in (map (option_map f) xs) p ≡ bind (held_in xs p) (λ x. Ok (f x))
  held_seen = seat_seen held (λ o. bind (held o) (λ x. Ok (f x))) held_alike ∙ sym (bind_cond (ltb p (length xs)) (held (get_or xs p None)) (λ x. Ok (f x)))

  pub vacant_seen : vacant_in (map (option_map f) xs) p ≡ vacant_in xs p
  vacant_seen = seat_seen vacant vacant vacant_alike

module _ {X : Type 0} (m : StoreModel) (f : X → Place) (xs : List (Option X)) (at : m.places ≡ map (option_map f) xs) (p : ℕ) where
  pub place_seen : place_at m p ≡ bind (held_in xs p) (λ x. Ok (f x))
  place_seen = ap (λ ps. held_in ps p) at ∙ held_seen f xs p

  pub begin_seen : begin_answer m p ≡ vacant_in xs p
  begin_seen = ap (λ ps. vacant_in ps p) at ∙ vacant_seen f xs p

  set_seen : (o : Option X) → with_places m (map (option_map f) (set xs p o)) ≡ with_place m p (option_map f o)
  set_seen o = ap (with_places m) (map-set (option_map f) xs p o ∙ ap (λ ps. set ps p (option_map f o)) (sym at))

  same_seen : with_places m (map (option_map f) xs) ≡ m
  same_seen = ap (with_places m) (sym at)

  -- seats where one is opened
  opened_by : (r : Result (Unit {0}) StoreFault) (x : X) → f x ≡ fresh m.board → with_places m (map (option_map f) (opened r xs p x)) ≡ leaves r (λ _. with_place m p (Some (fresh m.board))) m
  opened_by (Ok u) x e = set_seen (Some x) ∙ ap (λ y. with_place m p (Some y)) e
  opened_by (Err fault) x e = same_seen

  pub opened_seen : (x : X) → f x ≡ fresh m.board → with_places m (map (option_map f) (opened (vacant_in xs p) xs p x)) ≡ begin_after m p
  opened_seen x e = opened_by (vacant_in xs p) x e ∙ ap (λ r. leaves r (λ _. with_place m p (Some (fresh m.board))) m) (sym begin_seen)

  -- seats where one is opened with what is made, which begins on the board
  module _ (Made : X → Type 0) (begins : (x : X) → Made x → f x ≡ fresh m.board) (ys : List (Option X)) where
    opened_with_by : (r : Result (Unit {0}) StoreFault) → OpenedWith Made r xs p ys → with_places m (map (option_map f) ys) ≡ leaves r (λ _. with_place m p (Some (fresh m.board))) m
    opened_with_by (Ok u) o = ap (λ zs. with_places m (map (option_map f) zs)) o.2 ∙ set_seen (Some o.0) ∙ ap (λ y. with_place m p (Some y)) (begins o.0 o.1)
    opened_with_by (Err fault) o = ap (λ zs. with_places m (map (option_map f) zs)) o ∙ same_seen

    pub opened_with_seen : OpenedWith Made (vacant_in xs p) xs p ys → with_places m (map (option_map f) ys) ≡ begin_after m p
    opened_with_seen o = opened_with_by (vacant_in xs p) o ∙ ap (λ r. leaves r (λ _. with_place m p (Some (fresh m.board))) m) (sym begin_seen)

  -- and where one is closed
  closed_by : (r : Result X StoreFault) → held_in xs p ≡ r → with_places m (map (option_map f) (set xs p None)) ≡ leaves (bind r (λ x. Ok (f x))) (λ _. with_place m p None) m
  closed_by (Ok x) e = set_seen None
  closed_by (Err fault) e = ap (λ ys. with_places m (map (option_map f) ys)) (closed_again xs p fault e) ∙ same_seen

  pub closed_seen : with_places m (map (option_map f) (set xs p None)) ≡ abort_after m p
  closed_seen = closed_by (held_in xs p) refl ∙ ap (λ r. leaves r (λ _. with_place m p None) m) (sym place_seen)

  -- a write, made where the place lies
  module _ (j v : ℕ) (Changes : X → Result (Unit {0}) StoreFault → X → Type 0)
      (writes : (x : X) (r : Result (Unit {0}) StoreFault) (y : X) → Changes x r y → (r ≡ done (write_at j v (f x))) × (f y ≡ kept (write_at j v (f x)) (f x)))
      (r : Result (Unit {0}) StoreFault) (ys : List (Option X)) where
    Written : Result Place StoreFault → Type 0
    Written o = (r ≡ done (bind o (write_at j v))) × (with_places m (map (option_map f) ys) ≡ leaves (bind o (write_at j v)) (λ pl. with_place m p (Some pl)) m)

    wrote_by : (o : Result X StoreFault) → held_in xs p ≡ o → Changed Changes o xs p r ys → Written (bind o (λ x. Ok (f x)))
    unfolding Written
    wrote_by (Err fault) e c = (c.0, ap (λ zs. with_places m (map (option_map f) zs)) c.1 ∙ same_seen)
    wrote_by (Ok x) e c =
        let w = writes x r c.0 c.1 in
        (w.0, ap (λ zs. with_places m (map (option_map f) zs)) c.2 ∙ set_seen (Some c.0) ∙ ap (λ y. with_place m p (Some y)) w.1 ∙ kept_leaves m p (f x) (write_at j v (f x)) (same_place m p (Some (f x)) (seat_has m p (f x) (place_seen ∙ ap (λ h. bind h (λ x. Ok (f x))) e))))

    pub write_seen : Updates Changes xs p r ys → (r ≡ write_answer m p j v) × (with_places m (map (option_map f) ys) ≡ write_after m p j v)
    unfolding Written
    write_seen c = subst Written (sym place_seen) (wrote_by (held_in xs p) refl c)

-- the seats after a change of each that is open
each_alike : {X : Type 0} (f : X → Place) (w : ℕ → Bool) (Changes : X → X → Type 0) → ((x y : X) → Changes x y → Some (f y) ≡ overtaken_by w (Some (f x))) → (a b : Option X) → SeatChanged Changes a b → option_map f b ≡ overtaken_by w (option_map f a)
each_alike f w Changes same (Some x) (Some y) c = same x y c
each_alike f w Changes same None None c = refl
each_alike f w Changes same (Some x) None c = absurd c
each_alike f w Changes same None (Some y) c = absurd c

pub overtaken_seen : {X : Type 0} (f : X → Place) (w : ℕ → Bool) (Changes : X → X → Type 0) → ((x y : X) → Changes x y → Some (f y) ≡ overtaken_by w (Some (f x))) → (xs ys : List (Option X)) → length ys ≡ length xs → ChangesEach Changes xs ys → map (option_map f) ys ≡ map (overtaken_by w) (map (option_map f) xs)
overtaken_seen f w Changes same xs ys l c =
    ext_get_or None (map (option_map f) ys) (map (overtaken_by w) (map (option_map f) xs))
    (length-map ys (option_map f) ∙ l ∙ sym (length-map xs (option_map f)) ∙ sym (length-map (map (option_map f) xs) (overtaken_by w)))
    (λ k h.
    let in_ys : k < length ys = omega (arith, length-map ys (option_map f)) in
    get_or-map (option_map f) ys k None None in_ys
    ∙ each_alike f w Changes same (get_or xs k None) (get_or ys k None) (c k)
    ∙ ap (overtaken_by w) (sym (get_or-map (option_map f) xs k None None (omega (arith, l))))
    ∙ sym (get_or-map (overtaken_by w) (map (option_map f) xs) k None None (omega (arith, l, length-map xs (option_map f)))))
