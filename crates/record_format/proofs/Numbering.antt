-- An item of a record that reads stands where its entry in the contents says.
use Rattle.std.proofs.Common.{◌≡◌, ℕ, zero, suc, ◌+◌, ◌-◌, ◌*◌, ◌<◌, ◌≤◌, true, cond, ◌⊎◌, List, [], ◌∷◌, ◌++◌, map, length, get_or, take, drop, Some, None, Ok, Err, Option, Result, Bor, sym, refl, ap, ◌∙◌, subst, inl, inr, add-one, arith}
use Rattle.std.specs.Option.{option_map, option_copied}
use Rattle.std.specs.Slice.{IsItemAt}
use Rattle.std.proofs.lemmas.Bool.{cond-true, cond-false, cases_Bool}
use Rattle.std.proofs.ByRecursion.{All-drop}
use Rattle.std.proofs.lemmas.List.{drop-drop, length-drop, length-map, get_or-drop}
use Rattle.record_format.specs.Items.{Item}
use Rattle.record_format.specs.Written.{body, first_body, placed_bodies}
use Rattle.record_format.specs.Reading.{two_of, item_in, size_in, entry_of, Entered, stands, item_at, decoded_from, headless, decoded, count_of, items_read, items_in, bodies_in, numbered, span, span_in}
use Rattle.record_format.specs.Laws.{Bytes}
use Rattle.record_format.proofs.Lengths.{length-body}
use Rattle.record_format.proofs.Forth.{length-pairs_in, stands_parts, body_forth, others_read, head}
use Rattle.record_format.proofs.Walk.{rest, here, stands_there, Stood, within_more, rest_more, all_left}

-- item m of those that are left is item n of the record: what it is, and where its body lies
pub record Found (bs : List ℕ) (first : ℕ) (its : List Item) (n m : ℕ) : Type 0 where
  pub it : Item
  pub at : ℕ
  pub item_is : numbered its m ≡ Some it
  pub body_is : numbered (placed_bodies first its) m ≡ Some (body it, at)
  pub offset : two_of (drop (first_body (n - 1) + 2) bs) ≡ at
  pub within : at ≤ length bs
  pub there : item_at bs n at ≡ Some it

-- the first item of those that read
record First (k n at : ℕ) (es rs : List ℕ) (it : Item) : Type 0 where
  some : 0 < k
  stands : stands n at es rs ≡ true
  is : item_in es rs ≡ it

first_read : (k n at : ℕ) (es rs : List ℕ) (it : Item) (its : List Item) → decoded_from k n at es rs ≡ Ok (it ∷ its) → First k n at es rs it
first_read zero n at es [] it its e = absurd (let z : ◌≡◌ {A = ℕ} 0 1 = cc in omega arith)
first_read zero n at es (r ∷ rs) it its e = absurd (let z : ◌≡◌ {A = ℕ} 0 1 = cc in omega arith)
first_read (suc k) n at es rs it its e =
    elim (cases_Bool (stands n at es rs)) [
      | inl t ↦ let f = others_read (item_in es rs) _ (it ∷ its) (sym (cond-true _ _ _ t) ∙ e) in record { some = omega arith; stands = t; is = let g = f.1.1 in cc }
      | inr t ↦ absurd (let u = sym (cond-false (stands n at es rs) _ _ t) ∙ e in let z : ◌≡◌ {A = ℕ} 0 1 = cc u in omega arith)
    ]

stood_there : (bs : List ℕ) (i at : ℕ) (it : Item) → Stood bs i at it → (item_at bs (i + 1) at ≡ Some it) × (two_of (drop (first_body i + 2) bs) ≡ at)
stood_there bs i at it s =
    let h = here i bs in (
      (λ j. cond (stands (i + 1) at (h j) (drop at bs)) (Some (item_in (h j) (drop at bs))) None) ∙ cond-true _ _ _ s.stood ∙ ap Some s.is,
      ap two_of (sym (drop-drop 2 (first_body i) bs)) ∙ (stands_parts (i + 1) at (drop (first_body i) bs) (drop at bs) s.stood).offset,
    )

pub found_from : (its : List Item) (m : ℕ) (bs : List ℕ) (count i at n : ℕ) → rest bs count i at ≡ Ok its → at ≤ length bs → n ≡ i + m → 0 < m → m ≤ length its → Found bs at its n m
found_from its zero bs count i at n e within is some few = absurd (omega arith)
found_from [] (suc m) bs count i at n e within is some few = absurd (omega arith)
found_from (it ∷ its) (suc zero) bs count i at n e within is some few =
    let f = first_read (count - i) (i + 1) at (drop (first_body i) bs) (drop at bs) it its e in
    let s : Stood bs i at it = record { stood = f.stands; is = f.is } in
    let t = stood_there bs i at it s in
    let same : i + 1 ≡ n = omega arith in
    let back : first_body i + 2 ≡ first_body (n - 1) + 2 = omega arith in
    record {
      it = it;
      at = at;
      item_is = refl;
      body_is = refl;
      offset = ap (λ k. two_of (drop k bs)) (sym back) ∙ t.1;
      within = within;
      there = ap (λ k. item_at bs k at) (sym same) ∙ t.0;
    }
found_from (it ∷ its) (suc (suc m)) bs count i at n e within is some few =
    let f = first_read (count - i) (i + 1) at (drop (first_body i) bs) (drop at bs) it its e in
    let s : Stood bs i at it = record { stood = f.stands; is = f.is } in
    let next = at + (2 + 5 * length it.pairs) in
    let below : i < count = omega (arith, f.some) in
    let o = others_read it (rest bs count (i + 1) next) (it ∷ its) (sym (rest_more bs count i at it below s) ∙ e) in
    let others : rest bs count (i + 1) next ≡ Ok its = o.1.0 ∙ ap Ok (let g = o.1.1 in cc) in
    let r = found_from its (suc m) bs count (i + 1) next n others (within_more bs i at it within s) (omega arith) (omega arith) (omega arith) in
    let size : at + length (body it) ≡ next = ap (λ k. at + k) (length-body it) in
    record {
      it = r.it;
      at = r.at;
      item_is = r.item_is;
      body_is = ap (λ k. numbered (placed_bodies k its) (suc m)) size ∙ r.body_is;
      offset = r.offset;
      within = r.within;
      there = r.there;
    }

-- ---- a whole record

-- the record has so many items, and its contents are whole
pub record Whole (bs : List ℕ) (count : ℕ) : Type 0 where
  pub reads : decoded bs ≡ Ok (items_in bs)
  pub count_is : length (items_in bs) ≡ count
  pub all : rest bs count 0 (first_body count) ≡ Ok (items_in bs)
  pub long : first_body count ≤ length bs

counted_items : (r : Result (List Item) ℕ) (count : ℕ) → Ok count ≡ count_of r → (r ≡ Ok (items_read r)) × (length (items_read r) ≡ count)
counted_items (Ok its) count e = (refl, let f = e in cc)
counted_items (Err n) count e = absurd (let z : ◌≡◌ {A = ℕ} 0 1 = cc in omega arith)

length-read : (k n at : ℕ) (es rs : List ℕ) (its : List Item) → decoded_from k n at es rs ≡ Ok its → length its ≡ k
length-read zero n at es [] its e = ap length (let f : its ≡ [] = cc in f)
length-read zero n at es (r ∷ rs) its e = absurd (let z : ◌≡◌ {A = ℕ} 0 1 = cc in omega arith)
length-read (suc k) n at es rs its e =
    elim (cases_Bool (stands n at es rs)) [
      | inl t ↦
          let f = others_read (item_in es rs) _ its (sym (cond-true _ _ _ t) ∙ e) in
          ap length (sym f.1.1) ∙ ap suc (length-read k (n + 1) (at + size_in es) (drop 4 es) (drop (size_in es) rs) f.0 f.1.0)
      | inr t ↦ absurd (let u = sym (cond-false (stands n at es rs) _ _ t) ∙ e in let z : ◌≡◌ {A = ℕ} 0 1 = cc u in omega arith)
    ]

pub whole : (bs : List ℕ) (count : ℕ) → Ok count ≡ count_of (decoded bs) → Whole bs count
whole bs count e =
    let c = counted_items (decoded bs) count e in
    elim (cases_Bool (headless bs)) [
      | inl t ↦ absurd (let u = sym (cond-true (headless bs) _ _ t) ∙ c.0 in let z : ◌≡◌ {A = ℕ} 0 1 = cc u in omega arith)
      | inr t ↦
          let h = head bs t in
          let n = length-read (two_of bs) 1 (first_body (two_of bs)) (drop 2 bs) (drop (first_body (two_of bs)) bs) (items_in bs) (sym (cond-false _ _ _ t) ∙ c.0) in
          let same : count ≡ two_of bs = sym c.1 ∙ n in
          let long : first_body count ≤ length bs = omega (arith, h.long) in
          record { reads = c.0; count_is = c.1; all = sym (all_left bs count same long (omega (arith, h.few))) ∙ c.0; long = long }
    ]

pub found : (bs : List ℕ) (count n : ℕ) → Ok count ≡ count_of (decoded bs) → 0 < n → n ≤ count → Found bs (first_body (length (items_in bs))) (items_in bs) n n
found bs count n e some few =
    let w = whole bs count e in
    let long = w.long in
    let f = found_from (items_in bs) n bs count 0 (first_body count) n w.all long (omega arith) some (omega (arith, w.count_is)) in
    subst (λ (k : ℕ). Found bs (first_body k) (items_in bs) n n) (sym w.count_is) f

-- ---- what stands at a number

numbered_nothing : {A : Type 0} (n : ℕ) → numbered {A = A} [] n ≡ None
numbered_nothing zero = refl
numbered_nothing (suc n) = refl

numbered_past : {A : Type 0} (xs : List A) (n : ℕ) → (n < 1) ⊎ ((1 ≤ n) × (length xs < n)) → numbered xs n ≡ None
numbered_past xs zero h = refl
numbered_past xs (suc n) (inl h) = absurd (omega arith)
numbered_past [] (suc n) (inr h) = refl
numbered_past (x ∷ xs) (suc zero) (inr h) = absurd (omega (arith, h.1))
numbered_past (x ∷ xs) (suc (suc n)) (inr h) = numbered_past xs (suc n) (inr (omega arith, omega (arith, h.1)))

numbered_within : {A : Type 0} (xs : List A) (n : ℕ) (x : A) → numbered xs n ≡ Some x → (0 < n) × (n ≤ length xs)
numbered_within xs zero x e = absurd (let z : ◌≡◌ {A = ℕ} 0 1 = cc in omega arith)
numbered_within [] (suc n) x e = absurd (let z : ◌≡◌ {A = ℕ} 0 1 = cc in omega arith)
numbered_within (y ∷ xs) (suc zero) x e = (omega arith, omega arith)
numbered_within (y ∷ xs) (suc (suc n)) x e = let w = numbered_within xs (suc n) x e in (omega arith, omega (arith, w.1))

length-placed : (at : ℕ) (its : List Item) → length (placed_bodies at its) ≡ length its
length-placed at [] = refl
length-placed at (it ∷ its) = ap suc (length-placed (at + length (body it)) its)

pub no_span_unread : (bs : List ℕ) (n item : ℕ) → Err item ≡ count_of (decoded bs) → None ≡ span_in bs n
no_span_unread bs n item e = sym (unread (decoded bs) e)
  where
    unread : (r : Result (List Item) ℕ) → Err item ≡ count_of r → option_map span (numbered (placed_bodies (first_body (length (items_read r))) (items_read r)) n) ≡ None
    unread (Ok its) f = absurd (let z : ◌≡◌ {A = ℕ} 0 1 = cc in omega arith)
    unread (Err m) f = ap (option_map span) (numbered_nothing n)

pub no_span_past : (bs : List ℕ) (n count : ℕ) → Ok count ≡ count_of (decoded bs) → (n < 1) ⊎ ((1 ≤ n) × (count < n)) → None ≡ span_in bs n
no_span_past bs n count e h =
    let w = whole bs count e in
    let l = length-placed (first_body (length (items_in bs))) (items_in bs) ∙ w.count_is in
    sym (ap (option_map span) (numbered_past (bodies_in bs) n (past l h)))
  where
    past : {m : ℕ} → length (bodies_in bs) ≡ m → (n < 1) ⊎ ((1 ≤ n) × (m < n)) → (n < 1) ⊎ ((1 ≤ n) × (length (bodies_in bs) < n))
    past l (inl a) = inl a
    past l (inr a) = inr (a.0, omega (arith, a.1))

-- item n of a record that reads: its entry stands in the contents, and its body where the entry says
pub record Placed (bs : List ℕ) (n at size : ℕ) : Type 0 where
  pub some : 1 ≤ n
  pub contents : first_body n ≤ length bs
  pub offset : two_of (drop (first_body (n - 1) + 2) bs) ≡ at
  pub size_is : 2 + 5 * get_or bs (first_body (n - 1) + 1) 0 ≡ size
  pub room : at + size ≤ length bs
  pub item_is : item_at bs n at ≡ numbered (items_in bs) n
  pub body_is : Bytes bs → Some (take size (drop at bs), at) ≡ numbered (bodies_in bs) n

placed_at : (bs : List ℕ) (count n : ℕ) → Ok count ≡ count_of (decoded bs) → 1 ≤ n → n ≤ count → (p : List ℕ × ℕ) × ((numbered (bodies_in bs) n ≡ Some p) × Placed bs n p.1 (length p.0))
placed_at bs count n e some few =
    let f = found bs count n e some few in
    let at = f.at in
    let t = stands_there bs n at f.it (sym f.there) in
    let long = (stands_parts n at (entry_of n bs) (drop at bs) t.0).long in
    let size : size_in (entry_of n bs) ≡ length (body f.it) = ap (λ k. 2 + 5 * k) (sym (length-pairs_in (get_or (entry_of n bs) 1 0) (drop 2 (drop at bs)))) ∙ sym (length-body (item_in (entry_of n bs) (drop at bs))) ∙ ap (λ (x : Item). length (body x)) t.1 in
    let within = f.within in (
      (body f.it, at),
      (
        f.body_is,
        record {
          some = some;
          contents = omega (arith, (whole bs count e).long);
          offset = f.offset;
          size_is = ap (λ k. 2 + 5 * k) (sym (get_or-drop (first_body (n - 1)) bs 1 0)) ∙ size;
          room = omega (arith, length-drop at bs);
          item_is = f.there ∙ sym f.item_is;
          body_is = λ h. (λ i. Some (take (sym size i) (drop at bs), at)) ∙ ap (λ (b : List ℕ). Some (b, at)) (sym (body_forth (entry_of n bs) (drop at bs) (All-drop (λ b. b < 256) at bs h) long) ∙ ap body t.1) ∙ sym f.body_is;
        },
      ),
    )

-- the entry gives the span
pub span_found : (bs : List ℕ) (n count : ℕ) {home pairs size at : ℕ} → Ok count ≡ count_of (decoded bs) → 1 ≤ n → n ≤ count → Entered bs n home pairs size at → Some (at, size) ≡ span_in bs n
span_found bs n count {home} {pairs} {size} {at} e some few r =
    let p = placed_at bs count n e some few in
    let l = r.size_is ∙ ap (λ k. 2 + 5 * k) r.pairs_is ∙ p.1.1.size_is in
    let o = r.offset_is ∙ p.1.1.offset in
    (λ i. Some (o i, l i)) ∙ sym (ap (option_map span) p.1.0)

mapped_some : {A B : Type 0} (f : A → B) (o : Option A) (y : B) → Some y ≡ option_map f o → (x : A) × ((o ≡ Some x) × (f x ≡ y))
mapped_some f None y e = absurd (let z : ◌≡◌ {A = ℕ} 0 1 = cc in omega arith)
mapped_some f (Some x) y e = (x, (refl, let g = e in cc))

items_counted : (r : Result (List Item) ℕ) → 0 < length (items_read r) → Ok (length (items_read r)) ≡ count_of r
items_counted (Ok its) h = refl
items_counted (Err n) h = absurd (omega arith)

-- the span gives the entry, the item and the body
pub placed : (bs : List ℕ) (n at size : ℕ) → Some (at, size) ≡ span_in bs n → Placed bs n at size
placed bs n at size e =
    let m = mapped_some span (numbered (bodies_in bs) n) (at, size) e in
    let in_range = numbered_within (bodies_in bs) n m.0 m.1.0 in
    let l = length-placed (first_body (length (items_in bs))) (items_in bs) in
    let read = items_counted (decoded bs) (omega (arith, in_range.0, in_range.1)) in
    let p = placed_at bs (length (items_in bs)) n read in_range.0 (omega (arith, in_range.1)) in
    let same : p.0 ≡ m.0 = let g = sym p.1.0 ∙ m.1.0 in cc in
    subst (λ (q : ℕ × ℕ). Placed bs n q.0 q.1) (ap span same ∙ m.1.1) p.1.1

-- where there is no span there is neither item nor body
pub none_placed : (bs : List ℕ) (n : ℕ) → None ≡ span_in bs n → (None ≡ numbered (items_in bs) n) × (None ≡ numbered (bodies_in bs) n)
none_placed bs n e =
    let b = none (numbered (bodies_in bs) n) e in
    (sym (alike (items_in bs) (bodies_in bs) n (sym (length-placed (first_body (length (items_in bs))) (items_in bs))) b), sym b)
  where
    none : (o : Option (List ℕ × ℕ)) → None ≡ option_map span o → o ≡ None
    none None f = refl
    none (Some p) f = absurd (let z : ◌≡◌ {A = ℕ} 0 1 = cc in omega arith)

    alike : {A B : Type 0} (xs : List A) (ys : List B) (n : ℕ) → length xs ≡ length ys → numbered ys n ≡ None → numbered xs n ≡ None
    alike xs ys zero l f = refl
    alike [] ys (suc n) l f = refl
    alike (x ∷ xs) [] (suc n) l f = absurd (omega arith)
    alike (x ∷ xs) (y ∷ ys) (suc zero) l f = absurd (let z : ◌≡◌ {A = ℕ} 0 1 = cc in omega arith)
    alike (x ∷ xs) (y ∷ ys) (suc (suc n)) l f = alike xs ys (suc n) (omega arith) f

-- ---- the items one after the other

next_suc : {A : Type 0} (xs : List A) (i : ℕ) (x : A) → Some x ≡ numbered xs (suc i) → drop i xs ≡ x ∷ drop (suc i) xs
next_suc [] i x e = absurd (let z : ◌≡◌ {A = ℕ} 0 1 = cc in omega arith)
next_suc (y ∷ xs) zero x e = let f : x ≡ y = cc in ap (λ w. w ∷ xs) (sym f)
next_suc (y ∷ xs) (suc i) x e = next_suc xs i x e

pub next_item : {A : Type 0} (xs : List A) (i : ℕ) (x : A) → Some x ≡ numbered xs (i + 1) → drop i xs ≡ x ∷ drop (i + 1) xs
next_item xs i x e = next_suc xs i x (e ∙ ap (numbered xs) (add-one i)) ∙ ap (λ k. x ∷ drop k xs) (sym (add-one i))

taken_suc : {A : Type 0} (xs : List A) (i : ℕ) (x : A) → Some x ≡ numbered xs (suc i) → take (suc i) xs ≡ take i xs ++ x ∷ []
taken_suc [] i x e = absurd (let z : ◌≡◌ {A = ℕ} 0 1 = cc in omega arith)
taken_suc (y ∷ xs) zero x e = let f : x ≡ y = cc in ap (λ w. w ∷ []) (sym f)
taken_suc (y ∷ xs) (suc i) x e = ap (λ ys. y ∷ ys) (taken_suc xs i x e)

pub next_taken : {A : Type 0} (xs : List A) (i : ℕ) (x : A) → Some x ≡ numbered xs (i + 1) → take (i + 1) xs ≡ take i xs ++ x ∷ []
next_taken xs i x e = ap (λ k. take k xs) (add-one i) ∙ taken_suc xs i x (e ∙ ap (numbered xs) (add-one i))

none_suc : {A : Type 0} (xs : List A) (i : ℕ) → None ≡ numbered xs (suc i) → length xs ≤ i
none_suc [] i e = omega arith
none_suc (y ∷ xs) zero e = absurd (let z : ◌≡◌ {A = ℕ} 0 1 = cc in omega arith)
none_suc (y ∷ xs) (suc i) e = let h = none_suc xs i e in omega arith

pub no_next : {A : Type 0} (xs : List A) (i : ℕ) → None ≡ numbered xs (i + 1) → length xs ≤ i
no_next xs i e = none_suc xs i (e ∙ ap (numbered xs) (add-one i))

-- ---- the elements of a list, by what they mean

numbered_suc : {A B : Type 0} (f : A → B) (xs : List A) (i : ℕ) (d : A) → i < length xs → Some (f (get_or xs i d)) ≡ numbered (map f xs) (suc i)
numbered_suc f [] i d h = absurd (omega arith)
numbered_suc f (x ∷ xs) zero d h = refl
numbered_suc f (x ∷ xs) (suc i) d h = numbered_suc f xs i d (omega arith)

-- the element at a place is what stands at the next number
numbered_at : {A B : Type 0} (f : A → B) (xs : List A) (n : ℕ) (d : A) → 1 ≤ n → n ≤ length xs → Some (f (get_or xs (n - 1) d)) ≡ numbered (map f xs) n
numbered_at f xs n d l h = let e : suc (n - 1) ≡ n = omega arith in numbered_suc f xs (n - 1) d (omega arith) ∙ ap (numbered (map f xs)) e

none_past : {A B : Type 0} (f : A → B) (xs : List A) (n : ℕ) → (n < 1) ⊎ ((1 ≤ n) × (length xs < n)) → None ≡ numbered (map f xs) n
none_past f xs n h = sym (numbered_past (map f xs) n (subst (λ (k : ℕ). (n < 1) ⊎ ((1 ≤ n) × (k < n))) (sym (length-map xs f)) h))

-- what `get` finds at a place, by the number of that place
pub got_by_number : {A B : Type 0} (f : A → B) (xs : List A) (n i : ℕ) (r : Option (Bor A)) → n ≡ i + 1 → IsItemAt xs i r → option_map f (option_copied r) ≡ numbered (map f xs) n
got_by_number f xs n i None e h = none_past f xs n (inr (omega arith, omega (arith, h.3)))
got_by_number f xs n i (Some x) e h = ap (λ y. Some (f y)) (h.1 ∙ ap (λ k. get_or xs k x.now) (let g : i ≡ n - 1 = omega arith in g)) ∙ numbered_at f xs n x.now (omega arith) (omega (arith, h.3.0))
