-- A record reads as 256 items at most.
use Rattle.std.proofs.Common.{ℕ, zero, suc, ◌+◌, ◌≤◌, true, false, cond, ◌||◌, ltb, List, [], ◌∷◌, length, drop, Ok, Err, Result, ap, inl, inr, arith}
use Rattle.std.proofs.lemmas.Bool.{cases_Bool, cond-true, cond-false, ltb-false, or_parts}
use Rattle.record_format.specs.Items.{Item}
use Rattle.record_format.specs.Written.{first_body}
use Rattle.record_format.specs.Reading.{stands, item_in, size_in, before, two_of, decoded_from, headless, items_read, items_in}

one_before : (it : Item) (r : Result (List Item) ℕ) (k : ℕ) → length (items_read r) ≤ k → length (items_read (before it r)) ≤ suc k
one_before it (Ok its) k h = omega arith
one_before it (Err n) k h = omega arith

read_few : (k n at : ℕ) (es rs : List ℕ) → length (items_read (decoded_from k n at es rs)) ≤ k
read_few zero n at es [] = omega arith
read_few zero n at es (r ∷ rs) = omega arith
read_few (suc k) n at es rs =
    let r = decoded_from k (n + 1) (at + size_in es) (drop 4 es) (drop (size_in es) rs) in
    elim (stands n at es rs) as (λ b. length (items_read (cond b (before (item_in es rs) r) (Err n))) ≤ suc k) [
      | true ↦ one_before (item_in es rs) r k (read_few k (n + 1) (at + size_in es) (drop 4 es) (drop (size_in es) rs))
      | false ↦ omega arith
    ]

pub few_items : (bs : List ℕ) → length (items_in bs) ≤ 256
few_items bs =
    let n = two_of bs in
    let r = decoded_from n 1 (first_body n) (drop 2 bs) (drop (first_body n) bs) in
    elim (cases_Bool (headless bs)) [
      | inl h ↦ omega (arith, ap (λ d. length (items_read d)) (cond-true (headless bs) (Err 0) r h))
      | inr h ↦
          let p = or_parts (ltb (length bs) 2) (ltb 256 n || ltb (length bs) (first_body n)) h in
          let q = or_parts (ltb 256 n) (ltb (length bs) (first_body n)) p.1 in
          omega (arith, ap (λ d. length (items_read d)) (cond-false (headless bs) (Err 0) r h), read_few n 1 (first_body n) (drop 2 bs) (drop (first_body n) bs), ltb-false 256 n q.0)
    ]
