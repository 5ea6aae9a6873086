-- The items of a run, one after the other, and the pairs of one: what is next, and whether it may stand.
use Rattle.std.proofs.Common.{◌≡◌, ℕ, zero, suc, ◌+◌, ◌*◌, ◌<◌, ◌≤◌, true, false, leb, ◌&&◌, List, [], ◌∷◌, ◌++◌, length, map, get_or, take, drop, Some, None, Ok, Err, Option, sym, refl, ap, ◌∙◌, arith}
use Rattle.std.specs.List.{flat_map, list_all}
use Rattle.std.proofs.lemmas.Bool.{le-leb, lt-leb, cond-true, cond-false}
use Rattle.std.proofs.lemmas.List.{length-take-le, drop_more, drop_all, take_all, length-append, flat_map_more}
use Rattle.tickets.specs.Boards.{top}
use Rattle.tickets.specs.Meaning.{pair_of, pairs}
use Rattle.tickets.specs.declared.pair.Pair.{Pair}
use Rattle.record_format.specs.Items.{Item, within_tops, fits, first_unfit}
use Rattle.record_format.specs.Written.{two, four, pair_bytes, entry, body, contents, bodies, encoded}
use Rattle.record_format.specs.Reading.{numbered}
use Rattle.record_format.specs.Buffers.{Wrote}
use Rattle.record_format.specs.Meaning.{item_of}
use Rattle.record_format.specs.Calls.{sized, size_answer}
use Rattle.record_format.specs.declared.numbered_set.NumberedSet.{NumberedSet}
use Rattle.record_format.proofs.Lengths.{length-body, length-contents, length-encoded}
use Rattle.record_format.proofs.Writing.{then, wrote_same}
use Rattle.record_format.proofs.Numbering.{next_item, next_taken}

-- ---- the pairs of a write set

-- the pairs that the code has are within the tops, each by itself
pub tops_of_each : (ps : List Pair) → list_all (λ p. leb p.value (top p.object)) ps ≡ within_tops (map pair_of ps)
tops_of_each [] = refl
tops_of_each (p ∷ ps) = ap (λ b. leb p.value (top p.object) && b) (tops_of_each ps)

-- the bytes of a pair, from its object and the bytes of its value one by one
pub bytes_of_pair : (p : ℕ × ℕ) (vs : List ℕ) → vs ≡ four p.1 → p.0 ∷ get_or vs 0 0 ∷ get_or vs 1 0 ∷ get_or vs 2 0 ∷ get_or vs 3 0 ∷ [] ≡ pair_bytes p
bytes_of_pair p vs v = (λ j. p.0 ∷ get_or (v j) 0 0 ∷ get_or (v j) 1 0 ∷ get_or (v j) 2 0 ∷ get_or (v j) 3 0 ∷ [])

-- the bytes of the pairs from a place on are those of the pair there, and of the others behind it
pub pairs_left : (ps : List Pair) (i : ℕ) (d : Pair) → i < length ps → flat_map pair_bytes (map pair_of (drop i ps)) ≡ pair_bytes (pair_of (get_or ps i d)) ++ flat_map pair_bytes (map pair_of (drop (i + 1) ps))
pairs_left ps i d h = ap (λ qs. flat_map pair_bytes (map pair_of qs)) (drop_more ps i d h)

-- ---- one numbered write set

-- the bytes of an entry, from its parts and the bytes of the offset one by one
pub bytes_of_entry : (set : NumberedSet) (at n : ℕ) (os : List ℕ) → n ≡ length (pairs set.set) → os ≡ two at → set.home ∷ n ∷ get_or os 0 0 ∷ get_or os 1 0 ∷ [] ≡ entry at (item_of set)
bytes_of_entry set at n os p o = (λ j. set.home ∷ p j ∷ get_or (o j) 0 0 ∷ get_or (o j) 1 0 ∷ [])

-- ---- the items of a run, one after the other

-- what is left from number n on, and how long the record of the items before it is
pub record Sized (its left : List Item) (n needed : ℕ) : Type 0 where
  pub unfit_left : first_unfit n left ≡ first_unfit 1 its
  pub number : n + length left ≡ 1 + length its
  pub needed_in_all : needed + 4 * length left + length (bodies left) ≡ length (encoded its)
  pub small : needed + 44 ≤ 46 * n

module _ (its : List Item) where
  pub sizing_begins : {left : List Item} {n : ℕ} → left ≡ its → n ≡ 1 → Sized its left n 2
  sizing_begins {left} {n} e one = record {
    unfit_left = (λ i. first_unfit (one i) (e i));
    number = omega (arith, ap length e, one);
    needed_in_all = omega (arith, length-encoded its, ap length e, ap (λ l. length (bodies l)) e);
    small = omega (arith, one);
  }

  module _ {left rest : List Item} {n needed : ℕ} (w : Sized its left n needed) (x : NumberedSet) (next : left ≡ item_of x ∷ rest) where
    pub one_more_sized : (pairs needed' : ℕ) → true ≡ fits n (item_of x) → pairs ≡ length (item_of x).pairs → pairs ≤ 8 → needed' ≡ needed + (4 + 2 + 5 * pairs) → Sized its rest (n + 1) needed'
    one_more_sized pairs needed' t is few more =
        let long = length-body (item_of x) in
        let all = length-append (body (item_of x)) (bodies rest) in
        record {
          unfit_left = sym (ap (first_unfit n) next ∙ cond-true _ _ _ (sym t)) ∙ w.unfit_left;
          number = omega (arith, w.number, ap length next);
          needed_in_all = omega (arith, w.needed_in_all, ap length next, ap (λ l. length (bodies l)) next);
          small = omega (arith, w.small);
        }

-- ---- the same by number: the item that stands at a number, and what is known of those before it

module _ (its : List Item) (i : ℕ) (x : NumberedSet) (at : Some (item_of x) ≡ numbered its (i + 1)) where
  next_set : drop i its ≡ item_of x ∷ drop (i + 1) its
  next_set = next_item its i (item_of x) at

  pub take_set : take (i + 1) its ≡ take i its ++ item_of x ∷ []
  take_set = next_taken its i (item_of x) at

  pub length-bodies_more : length (bodies (take (i + 1) its)) ≡ length (bodies (take i its)) + length (body (item_of x))
  length-bodies_more =
      ap (λ l. length (bodies l)) take_set ∙ ap length (sym (flat_map_more body [] (take i its) (item_of x))) ∙ length-append (bodies (take i its)) (body (item_of x))

  pub unfit_next : true ≡ fits (i + 1) (item_of x) → first_unfit (i + 1 + 1) (drop (i + 1) its) ≡ first_unfit (i + 1) (drop i its)
  unfit_next t = sym (ap (first_unfit (i + 1)) next_set ∙ cond-true _ _ _ (sym t))

  pub unfit_here : false ≡ fits (i + 1) (item_of x) → first_unfit (i + 1) (drop i its) ≡ Some (i + 1)
  unfit_here f = ap (first_unfit (i + 1)) next_set ∙ cond-false _ _ _ (sym f)

-- the contents of some items, and of one more
contents_push : (at : ℕ) (xs : List Item) (x : Item) → contents at (xs ++ x ∷ []) ≡ contents at xs ++ entry (at + length (bodies xs)) x
contents_push at [] x = let z : at ≡ at + 0 = omega arith in ap (λ k. entry k x) z
contents_push at (y ∷ xs) x =
    let n : at + length (body y) + length (bodies xs) ≡ at + length (bodies (y ∷ xs)) = omega (arith, length-append (body y) (bodies xs)) in
    ap (λ l. entry at y ++ l) (contents_push (at + length (body y)) xs x ∙ ap (λ k. contents (at + length (body y)) xs ++ entry k x) n)

pub length-bodies_take : (i : ℕ) (xs : List Item) → length (bodies (take i xs)) ≤ length (bodies xs)
length-bodies_take zero xs = omega arith
length-bodies_take (suc i) [] = omega arith
length-bodies_take (suc i) (x ∷ xs) = omega (arith, length-append (body x) (bodies xs), length-append (body x) (bodies (take i xs)), length-bodies_take i xs)

module _ (its : List Item) (i : ℕ) (x : NumberedSet) (at : Some (item_of x) ≡ numbered its (i + 1)) where
  -- there is room for the next body
  pub room_for_body : length (bodies (take i its)) + length (body (item_of x)) ≤ length (bodies its)
  room_for_body = omega (arith, length-bodies_more its i x at, length-bodies_take (i + 1) its)

  pub bodies_next : {b b1 b2 : List ℕ} {from m r : ℕ} → from + length (bodies its) ≤ length b → Wrote b from (bodies (take i its)) b1 m → Wrote b1 m (body (item_of x)) b2 r → Wrote b from (bodies (take (i + 1) its)) b2 r
  bodies_next room u v =
      let l = room_for_body in
      wrote_same (flat_map_more body [] (take i its) (item_of x) ∙ ap bodies (sym (take_set its i x at))) (then (omega arith) u v)

  pub contents_next : (first pairs : ℕ) (os : List ℕ) {b b1 b2 : List ℕ} {from m r : ℕ} → i < length its → from + 4 * length its ≤ length b → pairs ≡ length (item_of x).pairs → os ≡ two (first + length (bodies (take i its))) → Wrote b from (contents first (take i its)) b1 m → Wrote b1 m (x.home ∷ pairs ∷ get_or os 0 0 ∷ get_or os 1 0 ∷ []) b2 r → Wrote b from (contents first (take (i + 1) its)) b2 r
  contents_next first pairs os {b} h room p o u v =
      let l = length-contents first (take i its) ∙ ap (λ k. 4 * k) (length-take-le i its (omega arith)) in
      let e : x.home ∷ pairs ∷ get_or os 0 0 ∷ get_or os 1 0 ∷ [] ≡ entry (first + length (bodies (take i its))) (item_of x) = (λ j. x.home ∷ p j ∷ get_or (o j) 0 0 ∷ get_or (o j) 1 0 ∷ []) in
      wrote_same (sym (ap (contents first) (take_set its i x at) ∙ contents_push first (take i its) (item_of x))) (then (omega arith) u (wrote_same e v))

module _ (its : List Item) where
  pub too_many : 256 < length its → Err (None, 0 ∷ []) ≡ size_answer its
  too_many h = sym (ap (λ o. sized o (length (encoded its))) (cond-false (leb (length its) 256) _ _ (lt-leb _ _ h)))

  sized_as : length its ≤ 256 → (o : Option ℕ) → first_unfit 1 its ≡ o → sized o (length (encoded its)) ≡ size_answer its
  sized_as h o e = ap (λ o. sized o (length (encoded its))) (sym e ∙ sym (cond-true (leb (length its) 256) _ _ (le-leb _ _ h)))

  pub first_bad : (n : ℕ) → length its ≤ 256 → first_unfit 1 its ≡ Some n → Err (None, n ∷ []) ≡ size_answer its
  first_bad n h e = sized_as h (Some n) e

  pub all_stand : (i needed : ℕ) → length its ≤ 256 → i ≡ length its → first_unfit (i + 1) (drop i its) ≡ first_unfit 1 its → needed ≡ 2 + 4 * i + length (bodies (take i its)) → Ok needed ≡ size_answer its
  all_stand i needed h is e n =
      let none = sym e ∙ ap (first_unfit (i + 1)) (drop_all i its (omega arith)) in
      let full = ap (λ k. length (bodies k)) (take_all i its (omega arith)) in
      let long : needed ≡ length (encoded its) = omega (arith, length-encoded its) in
      ap Ok long ∙ sized_as h None none
