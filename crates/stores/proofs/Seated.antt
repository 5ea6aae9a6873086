-- Seats by what stands in them. Assumes nothing.
use Rattle.std.proofs.Common.{◌≡◌, ℕ, ◌+◌, ◌<◌, ◌≤◌, ⊎_elim, Bool, true, false, cond, ltb, List, length, get_or, set, Some, None, Ok, Err, Option, Result, sym, refl, ap, ◌∙◌, subst, arith}
use Rattle.std.proofs.lemmas.List.{length-set, get_or_default, get_or_past, get_or-set_same, get_or-set_other, set_past, set-get_or}
use Rattle.std.proofs.lemmas.Bool.{lt-ltb, cases_lt, cases_eq}
use Rattle.stores.specs.declared.fault.StoreFault.{StoreFault}
use Rattle.stores.specs.declared.fault.StoreFault.TheVariants.{NoPlace}
use Rattle.stores.specs.Model.{held, seat_in}
use Rattle.stores.specs.Seated.{held_in, opened, OpenedWith, Changed, Updates, SeatChanged, ChangesEach}

pub in_seat : {P A : Type 0} (seats : List (Option P)) (p : ℕ) (o : Option P) (f : Option P → Result A StoreFault) → p < length seats → get_or seats p None ≡ o → seat_in seats p f ≡ f o
in_seat seats p o f h e = let l : ltb p (length seats) ≡ true = lt-ltb p _ h in rw (l, e)

held_by : {P : Type 0} (b : Bool) (o : Option P) (x : P) → cond b (held o) (Err NoPlace) ≡ Ok x → o ≡ Some x
held_by true (Some y) x e = cc
held_by true None x e = cc
held_by false o x e = cc

-- what stands at a place
pub held_is : {P : Type 0} (seats : List (Option P)) (p : ℕ) (x : P) → held_in seats p ≡ Ok x → get_or seats p None ≡ Some x
held_is seats p x e = held_by (ltb p (length seats)) (get_or seats p None) x e

-- a seat that is not open is as it was when it is closed
pub closed_again : {P : Type 0} (seats : List (Option P)) (p : ℕ) (fault : StoreFault) → held_in seats p ≡ Err fault → set seats p None ≡ seats
closed_again {P} seats p fault e = ⊎_elim (λ h. in_default (get_or seats p None) refl h) (λ h. set_past seats p None h) (cases_lt p (length seats))
  where
    in_default : (o : Option P) → get_or seats p None ≡ o → p < length seats → set seats p None ≡ seats
    in_default None is h = ap (set seats p) (sym is) ∙ set-get_or seats p None
    in_default (Some x) is h = let clash = sym (in_seat seats p (Some x) held h is) ∙ e in cc

-- a change of what stands in a seat that is open, read at any default
pub updates : {P R : Type 0} (Changes : P → Result R StoreFault → P → Type 0) (seats : List (Option P)) (p : ℕ) (x y : P) (r : Result R StoreFault) (d : Option P) → p < length seats → get_or seats p d ≡ Some x → Changes x r y → Updates Changes seats p r (set seats p (Some y))
updates Changes seats p x y r d h e made = subst (λ o. Changed Changes o seats p r (set seats p (Some y))) (sym (in_seat seats p (Some x) held h (get_or_default seats p None d h ∙ e))) (y, made, refl)

-- ---- a loop that goes up the seats and changes what stands in them

-- below i each seat is changed; from i on they are as they were
pub record Turned {P : Type 0} (Changes : P → P → Type 0) (before xs : List (Option P)) (i : ℕ) : Type 0 where
  pub long : length xs ≡ length before
  pub done : (k : ℕ) → k < i → SeatChanged Changes (get_or before k None) (get_or xs k None)
  pub left : (k : ℕ) → i ≤ k → get_or xs k None ≡ get_or before k None

module _ {P : Type 0} (Changes : P → P → Type 0) (before xs : List (Option P)) where
  pub turned_all : (i : ℕ) → Turned Changes before xs i → length before ≤ i → ChangesEach Changes before xs
  turned_all i t l p = ⊎_elim (t.done p) (λ past. past_last past) (cases_lt p i)
    where
      past_last : i ≤ p → SeatChanged Changes (get_or before p None) (get_or xs p None)
      past_last past =
          let b : get_or before p None ≡ None = get_or_past before p None (omega arith) in
          let x : get_or xs p None ≡ None = get_or_past xs p None (omega (arith, t.long)) in
          rw (b, x) tt

  pub turns : (i : ℕ) (d o n : Option P) → Turned Changes before xs i → i < length before → get_or xs i d ≡ o → SeatChanged Changes o n → Turned Changes before (set xs i n) (i + 1)
  turns i d o n t l is made =
      let within : i < length xs = omega (arith, t.long) in
      let was : get_or before i None ≡ o = sym (t.left i (omega arith)) ∙ get_or_default xs i None d within ∙ is in
      let other : (k : ℕ) → (k ≡ i → ⊥) → get_or (set xs i n) k None ≡ get_or xs k None = λ k ne. get_or-set_other xs i k n None ne in
      record {
        long = length-set xs i n ∙ t.long;
        done = λ k h. ⊎_elim (λ q. here k q was within made) (λ ne. subst (SeatChanged Changes (get_or before k None)) (sym (other k ne)) (t.done k (omega (arith, ne)))) (cases_eq k i);
        left = λ k h. other k (λ q. omega arith) ∙ t.left k (omega arith);
      }
    where
      here : (k : ℕ) → k ≡ i → get_or before i None ≡ o → i < length xs → SeatChanged Changes o n → SeatChanged Changes (get_or before k None) (get_or (set xs i n) k None)
      here k q was within made =
          let b : get_or before k None ≡ o = ap (λ j. get_or before j None) q ∙ was in
          let x : get_or (set xs i n) k None ≡ n = ap (λ j. get_or (set xs i n) j None) q ∙ get_or-set_same xs i n None within in
          rw (b, x) made

  -- a seat that is closed stays so
  pub passes : (i : ℕ) (d : Option P) → Turned Changes before xs i → i < length before → get_or xs i d ≡ None → Turned Changes before (set xs i (get_or xs i d)) (i + 1)
  passes i d t l is = turns i d None (get_or xs i d) t l is (subst (SeatChanged Changes None) (sym is) tt)

-- ---- what holds at every seat

pub each_set : {P : Type 0} (Q : Option P → Type 0) (seats : List (Option P)) (p : ℕ) (o : Option P) → ((k : ℕ) → Q (get_or seats k None)) → Q o → (k : ℕ) → Q (get_or (set seats p o) k None)
each_set Q seats p o each q k = ⊎_elim here (λ ne. subst Q (sym (get_or-set_other seats p k o None ne)) (each k)) (cases_eq k p)
  where
    here : k ≡ p → Q (get_or (set seats p o) k None)
    here e = ⊎_elim
        (λ h. subst Q (sym (ap (λ n. get_or (set seats p o) n None) e ∙ get_or-set_same seats p o None h)) q)
        (λ h. subst Q (sym (ap (λ xs. get_or xs k None) (set_past seats p o h))) (each k)) (cases_lt p (length seats))

pub each_opened : {P : Type 0} (Q : Option P → Type 0) (r : Result (Unit {0}) StoreFault) (seats : List (Option P)) (p : ℕ) (x : P) → ((k : ℕ) → Q (get_or seats k None)) → Q (Some x) → (k : ℕ) → Q (get_or (opened r seats p x) k None)
each_opened Q (Ok u) seats p x each q = each_set Q seats p (Some x) each q
each_opened Q (Err fault) seats p x each q = each

pub each_opened_with : {P : Type 0} (Q : Option P → Type 0) (Made : P → Type 0) (r : Result (Unit {0}) StoreFault) (seats new : List (Option P)) (p : ℕ) → ((k : ℕ) → Q (get_or seats k None)) → ((x : P) → Made x → Q (Some x)) → OpenedWith Made r seats p new → (k : ℕ) → Q (get_or new k None)
each_opened_with Q Made (Ok u) seats new p each q o = subst (λ xs. (k : ℕ) → Q (get_or xs k None)) (sym o.2) (each_set Q seats p (Some o.0) each (q o.0 o.1))
each_opened_with Q Made (Err fault) seats new p each q o = subst (λ xs. (k : ℕ) → Q (get_or xs k None)) (sym o) each
