-- The places of a store: which are open, and which is picked.
use Rattle.std.proofs.Common.{◌≡◌, ℕ, zero, suc, ◌+◌, ◌<◌, ◌≤◌, Bool, true, false, List, [], ◌∷◌, map, length, get_or, set, Some, None, Option, sym, refl, ap, ◌∙◌, arith}
use lib.ListN.{length-map}
use Rattle.std.proofs.lemmas.List.{get_or-map}
use Rattle.std.proofs.lemmas.Bool.{both_ways}
use Rattle.tickets.specs.WriteSets.{Pairs}
use Rattle.law.specs.Numbers.{tally}
use Rattle.law.specs.Store.{Place, Store, is_open, open_count, overtake_all, overtake_in, place}
use Rattle.law.specs.World.{Picks, first_shut, picked}
use Rattle.law.proofs.Numbers.{bit, tally_set}

pub some_within : {A : Type 0} (l : List (Option A)) (i : ℕ) (x : A) → get_or l i None ≡ Some x → i < length l
some_within [] i x e = absurd (let z : ◌≡◌ {A = ℕ} 0 1 = cc in omega arith)
some_within (o ∷ l) zero x e = omega arith
some_within (o ∷ l) (suc i) x e = let ih = some_within l i x e in omega arith

pub open_set : (l : List (Option Place)) (i : ℕ) (o : Option Place) → i < length l → open_count (set l i o) + bit (is_open (get_or l i None)) ≡ open_count l + bit (is_open o)
open_set l i o h = tally_set is_open None l i o h

pub open_overtaken : (w : Pairs) (l : List (Option Place)) → open_count (overtake_all w l) ≡ open_count l
open_overtaken w [] = refl
open_overtaken w (None ∷ l) = open_overtaken w l
open_overtaken w (Some x ∷ l) = ap suc (open_overtaken w l)

pub length-overtaken : (w : Pairs) (l : List (Option Place)) → length (overtake_all w l) ≡ length l
length-overtaken w [] = refl
length-overtaken w (o ∷ l) = ap suc (length-overtaken w l)

pub get_or-overtaken : (w : Pairs) (l : List (Option Place)) (i : ℕ) → get_or (overtake_all w l) i None ≡ overtake_in w (get_or l i None)
get_or-overtaken w [] i = refl
get_or-overtaken w (o ∷ l) zero = refl
get_or-overtaken w (o ∷ l) (suc i) = get_or-overtaken w l i

shut_none : (o : Option Place) → is_open o ≡ false → o ≡ None
shut_none None e = refl
shut_none (Some x) e = absurd (both_ways true e refl)

-- of more places than are open, the first that is not open is one of them
first_is_shut : (l : List Bool) → tally (λ b. b) l < length l → (first_shut l < length l) × (get_or l (first_shut l) true ≡ false)
first_is_shut [] h = absurd (omega arith)
first_is_shut (false ∷ l) h = (omega arith, refl)
first_is_shut (true ∷ l) h = let r = first_is_shut l (omega arith) in (omega (arith, r.0), r.1)

pub first_picks : Picks first_shut
first_picks l m h = first_is_shut l (omega arith)

-- it is no higher than the number of open ones
pub first_shut_low : (l : List Bool) → first_shut l ≤ tally (λ b. b) l
first_shut_low [] = omega arith
first_shut_low (false ∷ l) = omega arith
first_shut_low (true ∷ l) = let ih = first_shut_low l in omega arith

open_marks : (l : List (Option Place)) → tally (λ b. b) (map is_open l) ≡ open_count l
open_marks [] = refl
open_marks (None ∷ l) = open_marks l
open_marks (Some x ∷ l) = ap suc (open_marks l)

-- the place that is picked is not open
pub picked_shut : (pick : List Bool → ℕ) → Picks pick → (σ : Store) → 16 ≤ length σ.places → open_count σ.places < 16 →
    (picked pick σ < length σ.places) × (place σ (picked pick σ) ≡ None)
picked_shut pick h σ l m =
    let n : length (map is_open σ.places) ≡ length σ.places = length-map σ.places is_open in
    let g = h (map is_open σ.places) (omega arith) (omega (arith, open_marks σ.places)) in
    let b : picked pick σ < length σ.places = omega (arith, g.0) in
    (b, shut_none (place σ (picked pick σ)) (sym (get_or-map is_open σ.places (picked pick σ) None true b) ∙ g.1))
