-- What stands in the seats of a store, and what is answered at one of them.
use Rattle.std.specs.Prelude.{◌≡◌, ℕ, Bool, List, Some, None, Ok, Err, Option, Result, is_some, slice_index_or, slice_set}
use Rattle.std.specs.Borrow.{MutBor}
use Rattle.std.specs.Fn.{Shared}
use Rattle.stores.specs.declared.fault.StoreFault.{StoreFault}
use Rattle.stores.specs.declared.seats.Seats.{Seats}
use Rattle.stores.specs.Model.{held, vacant, seat_in}

-- seat by seat, what stands in it where it is open
abbrev pub seats_of : {P : Type 0} → Seats P → List (Option P)
seats_of s = s.seats

-- what stands at a place that is open
abbrev pub held_in : {P : Type 0} → List (Option P) → ℕ → Result P StoreFault
held_in seats p = seat_in seats p held

-- that a place is there and not open
abbrev pub vacant_in : {P : Type 0} → List (Option P) → ℕ → Result (Unit {0}) StoreFault
vacant_in seats p = seat_in seats p vacant

-- whether a place is open
abbrev pub open_in : {P : Type 0} → List (Option P) → ℕ → Result Bool StoreFault
open_in seats p = seat_in seats p (λ o. Ok (is_some o))

-- the seats after an open: where it is refused, as they were
abbrev pub opened : {P : Type 0} → Result (Unit {0}) StoreFault → List (Option P) → ℕ → P → List (Option P)
opened (Ok u) seats p here = slice_set seats p (Some here)
opened (Err e) seats p here = seats

-- the seats after an open with what is made, which `Made` tells of: where it is refused, as they were
abbrev pub OpenedWith : {P : Type 0} → (P → Type 0) → Result (Unit {0}) StoreFault → List (Option P) → ℕ → List (Option P) → Type 0
OpenedWith {P} Made (Ok u) old p new = (here : P) × Made here × (new ≡ slice_set old p (Some here))
OpenedWith Made (Err e) old p new = new ≡ old

-- a change of what stands at a place took `old` to `new` and answered `r`, where `here` stood there; a refusal is answered, and leaves all as it was
abbrev pub Changed : {P R : Type 0} → (P → Result R StoreFault → P → Type 0) → Result P StoreFault → List (Option P) → ℕ → Result R StoreFault → List (Option P) → Type 0
Changed {P} Changes (Ok here) old p r new = (left : P) × Changes here r left × (new ≡ slice_set old p (Some left))
Changed Changes (Err fault) old p r new = (r ≡ Err fault) × (new ≡ old)

abbrev pub Updates : {P R : Type 0} → (P → Result R StoreFault → P → Type 0) → List (Option P) → ℕ → Result R StoreFault → List (Option P) → Type 0
Updates Changes old p r new = Changed Changes (held_in old p) old p r new

-- a call of f at a `&mut` to x may leave y there
pub record Leaves {F P : Type 0} (g : Shared F (MutBor P × Unit {0}) (Unit {0} × (MutBor P × Unit {0}))) (f : F) (x y : P) : Type 0 where
  pub shown : MutBor P
  pub shows : shown.now ≡ x
  pub left : MutBor P
  pub met : g.post f (shown, tt) (tt, (left, tt))
  pub leaves : left.now ≡ y

-- what stands in a seat changed where it is open; a closed one stays closed
abbrev pub SeatChanged : {P : Type 0} → (P → P → Type 0) → Option P → Option P → Type 0
SeatChanged Changes (Some here) (Some left) = Changes here left
SeatChanged Changes None None = Unit {0}
SeatChanged Changes _ _ = ⊥

-- and so at each seat
abbrev pub ChangesEach : {P : Type 0} → (P → P → Type 0) → List (Option P) → List (Option P) → Type 0
ChangesEach Changes old new = (p : ℕ) → SeatChanged Changes (slice_index_or old p None) (slice_index_or new p None)
