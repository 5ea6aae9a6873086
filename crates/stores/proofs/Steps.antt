-- What an implementation of a store needs of its meaning. Assumes nothing.
use Rattle.std.proofs.Common.{◌≡◌, ℕ, zero, suc, ◌+◌, ◌<◌, List, [], ◌∷◌, length, get_or, set, Some, None, Ok, Err, Option, Result, sym, refl, ap, ◌∙◌, arith}
use Rattle.std.proofs.lemmas.List.{set-get_or}
use Rattle.stores.specs.declared.fault.StoreFault.{StoreFault}
use Rattle.stores.specs.Model.{StoreModel, Place, place_at, with_place, leaves, kept, or_else, played, played_from}
use Rattle.stores.proofs.Seated.{held_is}

pub seat_has : (m : StoreModel) (p : ℕ) (x : Place) → place_at m p ≡ Ok x → get_or m.places p None ≡ Some x
seat_has m p x e = held_is m.places p x e

-- a place put back as it was
pub same_place : (m : StoreModel) (p : ℕ) (o : Option Place) → get_or m.places p None ≡ o → with_place m p o ≡ m
same_place m p o e = ap (λ ps. record { board = m.board; commits = m.commits; most = m.most; places = ps }) (ap (set m.places p) (sym e) ∙ set-get_or m.places p None)

pub kept_leaves : (m : StoreModel) (p : ℕ) (x : Place) (r : Result Place StoreFault) → with_place m p (Some x) ≡ m → with_place m p (Some (kept r x)) ≡ leaves r (λ pl. with_place m p (Some pl)) m
kept_leaves m p x (Ok y) e = refl
kept_leaves m p x (Err f) e = e

-- ---- own writes played over a board

length-played_from : (own : ℕ → Option ℕ) (i : ℕ) (xs : List ℕ) → length (played_from own i xs) ≡ length xs
unfolding played_from
length-played_from own i [] = refl
length-played_from own i (x ∷ xs) = ap suc (length-played_from own (suc i) xs)

get_or-played_from : (own : ℕ → Option ℕ) (i : ℕ) (xs : List ℕ) (k : ℕ) → k < length xs → get_or (played_from own i xs) k 0 ≡ or_else (own (i + k)) (get_or xs k 0)
unfolding played_from
get_or-played_from own i [] k h = absurd (omega arith)
get_or-played_from own i (x ∷ xs) zero h = let e : i ≡ i + zero = omega arith in ap (λ n. or_else (own n) x) e
get_or-played_from own i (x ∷ xs) (suc k) h =
    let e : suc i + k ≡ i + suc k = omega arith in
    get_or-played_from own (suc i) xs k (omega arith) ∙ ap (λ n. or_else (own n) (get_or xs k 0)) e

pub length-played : (own : ℕ → Option ℕ) (xs : List ℕ) → length (played own xs) ≡ length xs
unfolding played
length-played own xs = length-played_from own 0 xs

pub get_or-played : (own : ℕ → Option ℕ) (xs : List ℕ) (k : ℕ) → k < length xs → get_or (played own xs) k 0 ≡ or_else (own k) (get_or xs k 0)
unfolding played
get_or-played own xs k h = let e : 0 + k ≡ k = omega arith in get_or-played_from own 0 xs k h ∙ ap (λ n. or_else (own n) (get_or xs k 0)) e
