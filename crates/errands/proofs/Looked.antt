-- The steps of looking a copy over: its places one by one, and its objects one by one.
use Rattle.std.proofs.Common.{◌≡◌, ℕ, zero, suc, ◌+◌, ◌≤◌, Bool, true, false, cond, ◌||◌, ltb, not, ◌==◌, List, [], ◌∷◌, length, get_or, drop, is_some, Some, None, Ok, Err, Option, sym, refl, ap, ◌∙◌, inl, inr, arith}
use Rattle.std.specs.List.{find, list_any, position, position_from, enumerate_from, range_with_len}
use Rattle.std.specs.Option.{option_map}
use Rattle.std.specs.Result.{result_unwrap_or}
use Rattle.std.proofs.lemmas.List.{at_drop_more, at_drop_all, get_or_past}
use Rattle.std.proofs.lemmas.Bool.{cases_lt, ltb-false}
use Rattle.std.proofs.lemmas.Iterator.Adapters.{option_map_id, position_from-zero}
use Rattle.stores.specs.declared.fault.StoreFault.TheVariants.{NoPlace, NoObject}
use Rattle.stores.specs.Model.{StoreModel, Place, Lawful, open_answer, value_answer}
use Rattle.tickets.specs.Boards.{Board, value}
use Rattle.errands.specs.Copies.{any_open, first_object, unlike, first_unlike}

-- ---- places

pub open_or : (p : ℕ) (m : StoreModel) → result_unwrap_or (open_answer m p) false ≡ is_some (get_or m.places p None)
open_or p m = by (ltb p (length m.places)) refl
  where
    by : (b : Bool) → ltb p (length m.places) ≡ b → result_unwrap_or (cond b (Ok (is_some (get_or m.places p None))) (Err NoPlace)) false ≡ is_some (get_or m.places p None)
    by true e = refl
    by false e = ap is_some (sym (get_or_past m.places p None (ltb-false p (length m.places) e)))

-- one place, and those behind it
pub any_open_step : (os : List (Option Place)) (p : ℕ) → any_open (drop p os) ≡ is_some (get_or os p None) || any_open (drop (p + 1) os)
unfolding any_open
any_open_step os p = elim (cases_lt p (length os)) [
  | inl h ↦ at_drop_more any_open os p None h
  | inr h ↦
      let more : length os ≤ p + 1 = omega arith in
      at_drop_all any_open os p h ∙ sym (λ i. is_some (get_or_past os p None h i) || at_drop_all any_open os (p + 1) more i)
]

pub any_open_end : (os : List (Option Place)) (p : ℕ) → length os ≤ p → any_open (drop p os) ≡ false
unfolding any_open
any_open_end os p h = at_drop_all any_open os p h

-- the places looked at one by one are all that there are
pub any_open_range : (os : List (Option Place)) (p n : ℕ) → length os ≤ p + n → list_any (λ q. is_some (get_or os q None)) (range_with_len p n) ≡ any_open (drop p os)
any_open_range os p zero h = sym (any_open_end os p (omega arith))
any_open_range os p (suc n) h = ap (λ b. is_some (get_or os p None) || b) (any_open_range os (p + 1) n (omega arith)) ∙ sym (any_open_step os p)

-- ---- objects

-- a whole board has no value past its last, as a store answers none there
pub value_or : (j : ℕ) (m : StoreModel) → Lawful m → result_unwrap_or (value_answer m j) 0 ≡ value m.board j
value_or j m l = by (ltb j 128) refl
  where
    by : (b : Bool) → ltb j 128 ≡ b → result_unwrap_or (cond b (Ok (value m.board j)) (Err NoObject)) 0 ≡ value m.board j
    by true e = refl
    by false e = sym (get_or_past m.board j 0 (omega (arith, ltb-false j 128 e, l.whole)))

found_from : (f : ℕ → Bool) (j n : ℕ) → find f (range_with_len j n) ≡ first_object f j n
unfolding first_object
found_from f j zero = refl
found_from f j (suc n) = ap (cond (f j) (Some j)) (found_from f (j + 1) n)

-- the first of all objects is what the library finds
pub first_object_found : (f : ℕ → Bool) (o : Option ℕ) → option_map (λ x. x) o ≡ find f (range_with_len 0 128) → o ≡ first_object f 0 128
first_object_found f o e = sym (option_map_id o) ∙ e ∙ found_from f 0 128

position_first : (t : ℕ × ℕ → Bool) (f : ℕ → Bool) (xs : List ℕ) (j : ℕ) → ((i k : ℕ) → k ≡ j + i → t (k, get_or xs i 0) ≡ f k) → position_from t j (enumerate_from j xs) ≡ first_object f j (length xs)
unfolding first_object
position_first t f [] j h = refl
position_first t f (x ∷ xs) j h = λ i. cond (h 0 j (omega arith) i) (Some j) (position_first t f xs (j + 1) (λ i k e. h (suc i) k (omega arith)) i)

-- the first value of the start, told with its object, that is not the board's
pub first_unlike_at : (start b : Board) → length start ≡ 128 → position (λ (p : ℕ × ℕ). not (p.1 == value b p.0)) (enumerate_from 0 start) ≡ first_unlike start b
first_unlike_at start b long =
    let t : ℕ × ℕ → Bool = λ p. not (p.1 == value b p.0) in
    position_from-zero t (enumerate_from 0 start)
    ∙ position_first t (unlike start b) start 0 (λ i k e. let s : i ≡ k = omega arith in ap (λ n. not (get_or start n 0 == value b k)) s)
    ∙ ap (first_object (unlike start b) 0) long
