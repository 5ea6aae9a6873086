-- A write to a place of a version store, as one of its own writes. Assumes nothing.
use Rattle.std.proofs.Common.{◌≡◌, ℕ, Bool, true, false, cond, ◌||◌, is_some, ltb, Ok, Err, Option, Result, refl, ◌∙◌}
use Rattle.stores.specs.declared.fault.StoreFault.{StoreFault}
use Rattle.stores.specs.declared.fault.StoreFault.TheVariants.{NoObject, NinthObject}
use Rattle.stores.specs.Model as model
use Rattle.stores.specs.Model.{done, kept, write_at, with_write}
use Rattle.versions.specs.Writes.{own_of, set_own, own_left, count_of}
use Rattle.versions.specs.Histories.{board_at, written_since}
use Rattle.versions.specs.Meaning.{HistoryModel}
use Rattle.version_store.specs.declared.place.Place.{Place}
use Rattle.version_store.specs.Meaning.{place_of}

-- a place that began after so many commits and has these own writes
abbrev with_own : HistoryModel → ℕ → (ℕ → Option ℕ) → model.Place
with_own h begun own = record { snapshot = board_at h.versions begun; own = own; overtaken = written_since h.versions begun }

module _ (own new : ℕ → Option ℕ) (place : (ℕ → Option ℕ) → model.Place) where
  answers_alike : (object room : Bool) → ◌≡◌ {A = Result (Unit {0}) StoreFault} (done (cond object (cond room (Ok new) (Err NinthObject)) (Err NoObject))) (done (cond object (cond room (Ok (place new)) (Err NinthObject)) (Err NoObject)))
  answers_alike true true = refl
  answers_alike true false = refl
  answers_alike false room = refl

  places_alike : (object room : Bool) → place (own_left (cond object (cond room (Ok new) (Err NinthObject)) (Err NoObject)) own) ≡ kept (cond object (cond room (Ok (place new)) (Err NinthObject)) (Err NoObject)) (place own)
  places_alike true true = refl
  places_alike true false = refl
  places_alike false room = refl

-- what sets an own write of a place writes to the place
pub own_write : (h : HistoryModel) (x y : Place) (j v : ℕ) (r : Result (Unit {0}) StoreFault) → r ≡ done (set_own (own_of x.own) j v) → own_of y.own ≡ own_left (set_own (own_of x.own) j v) (own_of x.own) → y.begun ≡ x.begun
    → (r ≡ done (write_at j v (place_of h x))) × (place_of h y ≡ kept (write_at j v (place_of h x)) (place_of h x))
own_write h x y j v r answer after begun =
    let own = own_of x.own in
    let object = ltb j 128 in
    let room = is_some (own j) || ltb (count_of own) 8 in (
      answer ∙ answers_alike own (with_write own j v) (with_own h x.begun) object room,
      (λ i. with_own h (begun i) (after i)) ∙ places_alike own (with_write own j v) (with_own h x.begun) object room,
    )
