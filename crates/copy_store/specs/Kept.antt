-- What a copy store keeps: at most eight own writes at each place, and only of the 128 objects. Assumes nothing.
use Rattle.std.specs.Prelude.{◌≡◌, ℕ, zero, suc, ◌≤◌, Bool, cond, List, [], ◌∷◌, map, get_or, Some, None, Option, slice_index, slice_index_or, slice_set, refl}
use Rattle.std.proofs.Common.{sym, ap, subst, ◌∙◌, arith}
use Rattle.marks.proofs.Laws.{nothing_past}
use Rattle.stores.specs.Model as model
use Rattle.stores.specs.Model.{OwnLawful, own_count, fresh, count_below, overtaken_by}
use Rattle.stores.proofs.Seated.{each_set}
use Rattle.copy_store.specs.declared.place.Place.{Place}
use Rattle.copy_store.specs.Places.{seat_of, own_writes}

-- at most eight own writes at every seat
abbrev pub Few : List (Option Place) → Type 0
Few ps = (p : ℕ) → own_writes (slice_index_or ps p None) ≤ 8

pub few_with : (ps : List (Option Place)) (p : ℕ) (o : Option Place) → Few ps → own_writes o ≤ 8 → Few (slice_set ps p o)
few_with ps p o few l = each_set (λ s. own_writes s ≤ 8) ps p o few l

-- a place that just began has none
pub none_at_begin : (board : List ℕ) → own_count (fresh board) ≡ 0
unfolding count_below
none_at_begin board = refl

-- what is seen of each element, of closed ones and past the last too
seen_at : {X Y : Type 0} (f : Option X → Option Y) → f None ≡ None → (xs : List (Option X)) (p : ℕ) → slice_index_or (map f xs) p None ≡ f (slice_index_or xs p None)
seen_at f e [] p = sym e
seen_at f e (x ∷ xs) zero = refl
seen_at f e (x ∷ xs) (suc p) = seen_at f e xs p

seat_writes : Option model.Place → ℕ
seat_writes (Some pl) = own_count pl
seat_writes None = 0

writes_seen : (o : Option Place) → own_writes o ≡ seat_writes (seat_of o)
unfolding seat_writes
writes_seen (Some x) = refl
writes_seen None = refl

writes_stay : (w : ℕ → Bool) (o : Option model.Place) → seat_writes (overtaken_by w o) ≡ seat_writes o
unfolding seat_writes
writes_stay w (Some pl) = refl
writes_stay w None = refl

-- being overtaken changes no own write
pub few_overtaken : (w : ℕ → Bool) (ps qs : List (Option Place)) → map seat_of qs ≡ map (overtaken_by w) (map seat_of ps) → Few ps → Few qs
few_overtaken w ps qs e few p =
    let seat : seat_of (slice_index_or qs p None) ≡ overtaken_by w (seat_of (slice_index_or ps p None)) =
    sym (seen_at seat_of refl qs p) ∙ ap (λ xs. get_or xs p None) e ∙ seen_at (overtaken_by w) refl (map seat_of ps) p ∙ ap (overtaken_by w) (seen_at seat_of refl ps p) in
    let same : own_writes (slice_index_or qs p None) ≡ own_writes (slice_index_or ps p None) =
    writes_seen (slice_index_or qs p None) ∙ ap seat_writes seat ∙ writes_stay w (seat_of (slice_index_or ps p None)) ∙ sym (writes_seen (slice_index_or ps p None)) in
    omega (arith, same, few p)

-- so what the store means keeps the law of own writes
own_lawful : (o : Option Place) → own_writes o ≤ 8 → OwnLawful (seat_of o)
own_lawful (Some x) l = (l, λ j h. ap (λ b. cond b (Some (slice_index x.own j)) None) (nothing_past x.wrote j h))
own_lawful None l = tt

pub seats_lawful : (ps : List (Option Place)) → Few ps → (p : ℕ) → OwnLawful (slice_index_or (map seat_of ps) p None)
seats_lawful ps few p = subst OwnLawful (sym (seen_at seat_of refl ps p)) (own_lawful (slice_index_or ps p None) (few p))
