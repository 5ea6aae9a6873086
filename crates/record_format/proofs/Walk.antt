-- A record read item by item: what is left after some of them.
use Rattle.std.proofs.Common.{◌≡◌, ℕ, suc, ◌+◌, ◌-◌, ◌*◌, ◌<◌, ◌≤◌, true, false, cond, List, [], ◌∷◌, length, get_or, drop, Some, None, Ok, Err, Result, sym, refl, ap, ◌∙◌, inl, inr, add-zero, arith}
use Rattle.std.proofs.lemmas.Bool.{cond-true, cond-false, cases_Bool}
use Rattle.std.proofs.lemmas.List.{drop-drop, length-drop, drop_all}
use Rattle.record_format.specs.Items.{Item}
use Rattle.record_format.specs.Written.{first_body}
use Rattle.record_format.specs.Reading.{two_of, item_in, size_in, entry_of, stands, item_at, before, decoded_from, decoded, count_of}
use Rattle.record_format.proofs.Back.{decoded_at}
use Rattle.record_format.proofs.Forth.{length-pairs_in, stands_parts}

-- what is left to read after i of the items, with the next body at the offset
abbrev pub rest : List ℕ → ℕ → ℕ → ℕ → Result (List Item) ℕ
rest bs count i at = decoded_from (count - i) (i + 1) at (drop (first_body i) bs) (drop at bs)

-- ---- where an item stands, and where it does not

pub here : (i : ℕ) (bs : List ℕ) → entry_of (i + 1) bs ≡ drop (first_body i) bs
here i bs = let e : first_body (i + 1 - 1) ≡ first_body i = omega arith in ap (λ m. drop m bs) e

pub record Stood (bs : List ℕ) (i at : ℕ) (it : Item) : Type 0 where
  pub stood : stands (i + 1) at (drop (first_body i) bs) (drop at bs) ≡ true
  pub is : item_in (drop (first_body i) bs) (drop at bs) ≡ it

pub stands_there : (bs : List ℕ) (n at : ℕ) (it : Item) → Some it ≡ item_at bs n at → (stands n at (entry_of n bs) (drop at bs) ≡ true) × (item_in (entry_of n bs) (drop at bs) ≡ it)
stands_there bs n at it e =
    elim (cases_Bool (stands n at (entry_of n bs) (drop at bs))) [
      | inl t ↦ (t, let g = e ∙ cond-true _ _ _ t in cc)
      | inr t ↦ absurd (let g = e ∙ cond-false _ _ _ t in let z : ◌≡◌ {A = ℕ} 0 1 = cc in omega arith)
    ]

pub stood : (bs : List ℕ) (i at : ℕ) (it : Item) → Some it ≡ item_at bs (i + 1) at → Stood bs i at it
stood bs i at it e =
    let h = here i bs in
    let t = stands_there bs (i + 1) at it e in
    record { stood = ap (λ es. stands (i + 1) at es (drop at bs)) (sym h) ∙ t.0; is = ap (λ es. item_in es (drop at bs)) (sym h) ∙ t.1 }

not_stood : (bs : List ℕ) (i at : ℕ) → None ≡ item_at bs (i + 1) at → stands (i + 1) at (drop (first_body i) bs) (drop at bs) ≡ false
not_stood bs i at e =
    let h = here i bs in
    let f = e ∙ (λ j. cond (stands (i + 1) at (h j) (drop at bs)) (Some (item_in (h j) (drop at bs))) None) in
    elim (cases_Bool (stands (i + 1) at (drop (first_body i) bs) (drop at bs))) [
      | inl t ↦ absurd (let g = f ∙ cond-true _ _ _ t in let z : ◌≡◌ {A = ℕ} 0 1 = cc in omega arith)
      | inr t ↦ t
    ]

-- ---- one item further

pub size_is : (bs : List ℕ) (i at : ℕ) (it : Item) → Stood bs i at it → size_in (drop (first_body i) bs) ≡ 2 + 5 * length it.pairs
size_is bs i at it s =
    ap (λ k. 2 + 5 * k) (sym (length-pairs_in (get_or (drop (first_body i) bs) 1 0) (drop 2 (drop at bs))) ∙ ap (λ (x : Item). length x.pairs) s.is)

pub within_more : (bs : List ℕ) (i at : ℕ) (it : Item) → at ≤ length bs → Stood bs i at it → at + (2 + 5 * length it.pairs) ≤ length bs
within_more bs i at it h s =
    let long = (stands_parts (i + 1) at (drop (first_body i) bs) (drop at bs) s.stood).long in
    omega (arith, size_is bs i at it s, length-drop at bs)

pub rest_more : (bs : List ℕ) (count i at : ℕ) (it : Item) → i < count → Stood bs i at it → rest bs count i at ≡ before it (rest bs count (i + 1) (at + (2 + 5 * length it.pairs)))
rest_more bs count i at it h s =
    let es = drop (first_body i) bs in
    let rs = drop at bs in
    let k : count - i ≡ suc (count - (i + 1)) = omega arith in
    let next : first_body i + 4 ≡ first_body (i + 1) = omega arith in
    let e = drop-drop 4 (first_body i) bs ∙ ap (λ m. drop m bs) next in
    let size = size_is bs i at it s in
    let f = drop-drop (size_in es) at bs ∙ ap (λ m. drop (at + m) bs) size in
    ap (λ m. decoded_from m (i + 1) at es rs) k ∙ cond-true _ _ _ s.stood
    ∙ (λ j. before (s.is j) (decoded_from (count - (i + 1)) (i + 1 + 1) (at + size j) (e j) (f j)))

pub rest_bad : (bs : List ℕ) (count i at : ℕ) → i < count → None ≡ item_at bs (i + 1) at → rest bs count i at ≡ Err (i + 1)
rest_bad bs count i at h e =
    let k : count - i ≡ suc (count - (i + 1)) = omega arith in
    ap (λ m. decoded_from m (i + 1) at (drop (first_body i) bs) (drop at bs)) k ∙ cond-false _ _ _ (not_stood bs i at e)

-- ---- no item is left

pub rest_none : (bs : List ℕ) (count i at : ℕ) → count ≤ i → length bs ≤ at → rest bs count i at ≡ Ok []
rest_none bs count i at h full =
    let z : count - i ≡ 0 = omega arith in
    let e = drop_all at bs full in
    (λ j. decoded_from (z j) (i + 1) at (drop (first_body i) bs) (e j))

over_from : (n at : ℕ) (es rs : List ℕ) → 0 < length rs → decoded_from 0 n at es rs ≡ Err n
over_from n at es [] h = absurd (omega arith)
over_from n at es (r ∷ rs) h = refl

pub rest_over : (bs : List ℕ) (count i at : ℕ) → count ≤ i → at < length bs → rest bs count i at ≡ Err (i + 1)
rest_over bs count i at h over =
    let z : count - i ≡ 0 = omega arith in
    let l = length-drop at bs in
    ap (λ k. decoded_from k (i + 1) at (drop (first_body i) bs) (drop at bs)) z ∙ over_from (i + 1) at (drop (first_body i) bs) (drop at bs) (omega arith)

-- ---- the head

pub all_left : (bs : List ℕ) (count : ℕ) → count ≡ two_of bs → first_body count ≤ length bs → count ≤ 256 → decoded bs ≡ rest bs count 0 (first_body count)
all_left bs count e long few =
    let z : count ≡ count - 0 = omega arith in
    decoded_at bs count (sym e) long few ∙ ap (λ k. decoded_from k 1 (first_body count) (drop 2 bs) (drop (first_body count) bs)) z

-- ---- counting

-- how many items there are, i of them read already
abbrev pub tally : ℕ → Result (List Item) ℕ → Result ℕ ℕ
tally i (Ok its) = Ok (i + length its)
tally i (Err n) = Err n

pub tally_none : (r : Result (List Item) ℕ) → tally 0 r ≡ count_of r
tally_none (Ok its) = ap Ok (let e : 0 + length its ≡ length its = omega arith in e)
tally_none (Err n) = refl

pub tally_more : (i : ℕ) (it : Item) (r : Result (List Item) ℕ) → tally i (before it r) ≡ tally (i + 1) r
tally_more i it (Ok its) = ap Ok (let e : i + suc (length its) ≡ i + 1 + length its = omega arith in e)
tally_more i it (Err n) = refl

-- ---- item n of the walk, which read those before it

module _ (bs : List ℕ) (count n at : ℕ) {answer : Result ℕ ℕ} (so_far : tally (n - 1) (rest bs count (n - 1) at) ≡ answer) where
  module _ (some : 1 ≤ n) (few : n ≤ count) where
    same_number : n - 1 + 1 ≡ n
    same_number = omega arith

    pub walk_ends_here : None ≡ item_at bs n at → Err n ≡ answer
    walk_ends_here e =
        let bad = rest_bad bs count (n - 1) at (omega arith) (e ∙ ap (λ k. item_at bs k at) (sym same_number)) in
        ap Err (sym same_number) ∙ sym (ap (tally (n - 1)) bad) ∙ so_far

    module _ (it : Item) (e : Some it ≡ item_at bs n at) where
      there : Stood bs (n - 1) at it
      there = stood bs (n - 1) at it (e ∙ ap (λ k. item_at bs k at) (sym same_number))

      pub next_within : at ≤ length bs → at + (2 + 5 * length it.pairs) ≤ length bs
      next_within h = within_more bs (n - 1) at it h there

      pub walk_goes_on : (m next : ℕ) → m ≡ n → next ≡ at + (2 + 5 * length it.pairs) → tally m (rest bs count m next) ≡ answer
      walk_goes_on m next same_m next_is =
          let past = at + (2 + 5 * length it.pairs) in
          (λ i. tally (same_m i) (rest bs count (same_m i) (next_is i)))
          ∙ ap (λ k. tally k (rest bs count k past)) (sym same_number)
          ∙ sym (ap (tally (n - 1)) (rest_more bs count (n - 1) at it (omega arith) there) ∙ tally_more (n - 1) it (rest bs count (n - 1 + 1) past))
          ∙ so_far

module _ (bs : List ℕ) (count at : ℕ) {answer : Result ℕ ℕ} (all : tally count (rest bs count count at) ≡ answer) where
  pub walk_leaves_bytes : at < length bs → Err (count + 1) ≡ answer
  walk_leaves_bytes over = sym (ap (tally count) (rest_over bs count count at (omega arith) over)) ∙ all

  pub walk_leaves_none : length bs ≤ at → Ok count ≡ answer
  walk_leaves_none full = ap Ok (sym (add-zero count)) ∙ sym (ap (tally count) (rest_none bs count count at (omega arith) full)) ∙ all
