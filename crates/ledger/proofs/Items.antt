-- What stands at a number, and at a place of the numbered write sets.
use Rattle.std.proofs.Common.{◌≡◌, ℕ, zero, suc, ◌+◌, ◌-◌, ◌<◌, Bool, ltb, cond, List, [], ◌∷◌, map, length, get_or, set, vec_items, vec_len, Bor, Option, Some, None, inl, inr, sym, refl, ap, ◌∙◌, arith}
use Rattle.std.specs.List.{slice_get}
use Rattle.std.specs.Option.{IfSome, is_some, option_copied, option_map}
use Rattle.std.proofs.lemmas.Bool.{cases_lt, ltb-true, ltb-false, cond-true, cond-false}
use Rattle.std.proofs.lemmas.List.{get_or-map, length-map, map-set}
use Rattle.std.proofs.lemmas.Option.{slice_get-get_or, slice_get-map, slice_get_past, slice_get_read}
use Rattle.record_format.specs.Reading.{numbered}
use Rattle.ledger.specs.declared.numbered.Numbered.{Numbered}
use Rattle.ledger.specs.declared.write_sets.WriteSets.{WriteSets}
use Rattle.ledger.specs.Words.{up_to}
use Rattle.ledger.specs.Records.{item_of_set, items_of_sets}
use Rattle.ledger.specs.Sets.{SetModel, set_of, sets_of, no_set, nth_set, marked_set}
use Rattle.ledger.proofs.Upward.{up_to_yes, up_to_zero, up_to_past}

numbered_suc : {X : Type 0} (xs : List X) (n : ℕ) → numbered xs (suc n) ≡ slice_get xs n
numbered_suc [] n = refl
numbered_suc (x ∷ xs) zero = refl
numbered_suc (x ∷ xs) (suc n) = numbered_suc xs n

pub numbered_get : {X : Type 0} (xs : List X) (n : ℕ) → 0 < n → numbered xs n ≡ slice_get xs (n - 1)
numbered_get xs n h = let e : n ≡ suc (n - 1) = omega arith in ap (numbered xs) e ∙ numbered_suc xs (n - 1)

-- what a look-up in a slice gives
pub copied_get : {X : Type 0} (xs : List X) (i : ℕ) (o : Option (Bor X)) → is_some o ≡ ltb i (length xs) → IfSome o (λ x. x.now ≡ get_or xs i x.now) → option_copied o ≡ slice_get xs i
copied_get xs i None none item = sym (slice_get_past xs i (ltb-false i (length xs) (sym none)))
copied_get xs i (Some x) some item = sym (slice_get_read xs (length xs) i x.now refl (ltb-true i (length xs) (sym some)) item)

pub numbered-map : {X Y : Type 0} (f : X → Y) (xs : List X) (n : ℕ) → numbered (map f xs) n ≡ option_map f (numbered xs n)
numbered-map f xs zero = refl
numbered-map f xs (suc n) = numbered_suc (map f xs) n ∙ slice_get-map f xs n ∙ sym (ap (option_map f) (numbered_suc xs n))

-- the item of a number is its write set without whose it is and where it is applied
pub item_is : (us : WriteSets) (n : ℕ) (x : Numbered) (o : Option Numbered) → o ≡ Some x → o ≡ numbered (vec_items us.given.items) n → Some (item_of_set (set_of x)) ≡ numbered (items_of_sets (sets_of us)) n
item_is us n x o some e = sym (numbered-map item_of_set (sets_of us) n ∙ ap (option_map item_of_set) (numbered-map set_of (vec_items us.given.items) n ∙ ap (option_map set_of) (sym e ∙ some)))

pub no_item : (us : WriteSets) (n : ℕ) (o : Option Numbered) → o ≡ None → o ≡ numbered (vec_items us.given.items) n → None ≡ numbered (items_of_sets (sets_of us)) n
no_item us n o none e = sym (numbered-map item_of_set (sets_of us) n ∙ ap (option_map item_of_set) (numbered-map set_of (vec_items us.given.items) n ∙ ap (option_map set_of) (sym e ∙ none)))

-- a number that was given has its element
pub numbered_given : {X : Type 0} (xs : List X) (n : ℕ) (d : X) → numbered xs n ≡ cond (up_to (length xs) n) (Some (get_or xs (n - 1) d)) None
numbered_given xs zero d = sym (cond-false (up_to (length xs) 0) (Some (get_or xs (0 - 1) d)) None (up_to_zero (length xs) 0 refl))
numbered_given xs (suc n) d =
    let e : suc n - 1 ≡ n = omega arith in
    elim (cases_lt n (length xs)) [
      | inl h ↦ numbered_suc xs n ∙ slice_get-get_or xs n d h ∙ ap (λ i. Some (get_or xs i d)) (sym e) ∙ sym (cond-true _ _ _ (up_to_yes (length xs) (suc n) (omega arith) (omega arith)))
      | inr h ↦ numbered_suc xs n ∙ slice_get_past xs n h ∙ sym (cond-false _ _ _ (up_to_past (length xs) (suc n) (omega arith)))
    ]

-- what a turn finds of the item at i is so of number i + 1
pub item_passes : (p : SetModel → Bool) (xs : List Numbered) (i : ℕ) (x : Numbered) (r : Bool) → i < length xs → x ≡ get_or xs i x → r ≡ p (set_of x) → p (nth_set (map set_of xs) (i + 1)) ≡ r
item_passes p xs i x r h read told =
    let z : i + 1 - 1 ≡ i = omega arith in
    ap (λ n. p (get_or (map set_of xs) n no_set)) z ∙ ap p (get_or-map set_of xs i x no_set h ∙ ap set_of (sym read)) ∙ sym told

-- what is read at n - 1 is number n
pub set_is : (xs : List Numbered) (n : ℕ) (x : Numbered) → n - 1 < length xs → x ≡ get_or xs (n - 1) x → set_of x ≡ nth_set (map set_of xs) n
set_is xs n x h e = sym (get_or-map set_of xs (n - 1) x no_set h ∙ ap set_of (sym e))

pub length-sets : (us : WriteSets) → length (sets_of us) ≡ vec_len us.given.items
length-sets us = omega (arith, length-map (vec_items us.given.items) set_of, us.given.items.ok.0)

-- the item at i with its mark at k is number i + 1 with it
pub mark_item : (xs : List Numbered) (n i k : ℕ) (x y : Numbered) → i ≡ n - 1 → i < length xs → x ≡ get_or xs i x → set_of y ≡ marked_set k (set_of x) → map set_of (set xs i y) ≡ set (map set_of xs) (n - 1) (marked_set k (nth_set (map set_of xs) n))
mark_item xs n i k x y at h read is =
    let l : n - 1 < length xs = omega arith in
    map-set set_of xs i y
    ∙ (λ r. set (map set_of xs) (at r) (is r))
    ∙ ap (λ u. set (map set_of xs) (n - 1) (marked_set k u)) (set_is xs n x l (read ∙ ap (λ j. get_or xs j x) at))
