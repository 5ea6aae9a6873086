-- One write after another, and what is written part by part.
use Rattle.std.proofs.Common.{◌≡◌, ℕ, ◌+◌, ◌-◌, ◌≤◌, List, [], ◌++◌, length, take, drop, sym, refl, ap, ◌∙◌, subst, add-zero, arith}
use Rattle.std.proofs.lemmas.List.{append_assoc, take-append-drop, take_at, drop_at, drop-drop, length-append, length-take-le}
use Rattle.record_format.specs.Buffers.{written, Wrote}

module _ (b : List ℕ) (at : ℕ) (xs : List ℕ) (room : at + length xs ≤ length b) where
  front_length : length (take at b ++ xs) ≡ at + length xs
  front_length = let t = length-take-le at b (omega arith) in omega (arith, length-append (take at b) xs)

  grouped : (take at b ++ xs) ++ drop (at + length xs) b ≡ written b at xs
  grouped = append_assoc (take at b) xs (drop (at + length xs) b)

  front : take (at + length xs) (written b at xs) ≡ take at b ++ xs
  front = ap (take (at + length xs)) (sym grouped) ∙ take_at (take at b ++ xs) _ _ front_length

  behind : (k : ℕ) → drop (at + length xs + k) (written b at xs) ≡ drop (at + length xs + k) b
  behind k =
      let q = ap (drop (at + length xs)) (sym grouped) ∙ drop_at (take at b ++ xs) (drop (at + length xs) b) (at + length xs) front_length in
      sym (drop-drop k (at + length xs) (written b at xs)) ∙ ap (drop k) q ∙ drop-drop k (at + length xs) b

  written_again : (ys : List ℕ) → written (written b at xs) (at + length xs) ys ≡ written b at (xs ++ ys)
  written_again ys =
      let n : at + length xs + length ys ≡ at + length (xs ++ ys) = omega (arith, length-append xs ys) in
      (λ i. front i ++ (ys ++ behind (length ys) i)) ∙ append_assoc (take at b) xs _
      ∙ ap (λ l. take at b ++ l) (sym (append_assoc xs ys _)) ∙ ap (λ k. take at b ++ ((xs ++ ys) ++ drop k b)) n

pub wrote_nothing : (b : List ℕ) (at : ℕ) → Wrote b at [] b at
wrote_nothing b at = record {
  after = sym (ap (λ k. take at b ++ drop k b) (add-zero at) ∙ take-append-drop at b);
  ends = sym (add-zero at);
}

pub wrote_same : {b b' xs ys : List ℕ} {at end : ℕ} → xs ≡ ys → Wrote b at xs b' end → Wrote b at ys b' end
wrote_same {b} {b'} {xs} {ys} {at} {end} e w = subst (λ (l : List ℕ). Wrote b at l b' end) e w

pub then : {b b1 b2 : List ℕ} {at m r : ℕ} {xs ys : List ℕ} → at + length xs ≤ length b → Wrote b at xs b1 m → Wrote b1 m ys b2 r → Wrote b at (xs ++ ys) b2 r
then {b} {b1} {b2} {at} {m} {r} {xs} {ys} h u v = record {
  after = v.after ∙ (λ i. written (u.after i) (u.ends i) ys) ∙ written_again b at xs h ys;
  ends = omega (arith, u.ends, v.ends, length-append xs ys);
}

-- the bytes of a part of the buffer, copied over
pub copied : (b : List ℕ) (at : ℕ) (xs ys : List ℕ) → ys ≡ xs → Wrote b at xs (take at b ++ (ys ++ drop (at + length xs - at) (drop at b))) (at + length xs)
copied b at xs ys e =
    let k : at + length xs - at ≡ length xs = omega arith in
    record {
      after = (λ i. take at b ++ (e i ++ drop (k i) (drop at b))) ∙ ap (λ l. take at b ++ (xs ++ l)) (drop-drop (length xs) at b);
      ends = refl;
    }

-- ---- one after the other

-- some of all the bytes stand in the buffer from a place on, and the others are left to be written at the end
pub record Writing (b : List ℕ) (at : ℕ) (all left b' : List ℕ) (end : ℕ) : Type 0 where
  pub done : List ℕ
  pub wrote : Wrote b at done b' end
  pub whole : done ++ left ≡ all

module _ {b all : List ℕ} {at : ℕ} where
  pub writing_begins : {left : List ℕ} → left ≡ all → Writing b at all left b at
  writing_begins e = record { done = []; wrote = wrote_nothing b at; whole = e }

  pub room_for_next : {b1 rest : List ℕ} {m : ℕ} (xs left : List ℕ) → rest ≡ xs ++ left → at + length all ≤ length b → Writing b at all rest b1 m → m + length xs ≤ length b
  room_for_next {b1} {rest} xs left e room w = omega (arith, room, w.wrote.ends, ap length w.whole, length-append w.done rest, ap length e, length-append xs left)

  -- the next of them are written
  pub writing_goes_on : {b1 b2 rest : List ℕ} {m n : ℕ} (xs left : List ℕ) → rest ≡ xs ++ left → at + length all ≤ length b → Writing b at all rest b1 m → Wrote b1 m xs b2 n → Writing b at all left b2 n
  writing_goes_on {b1} {b2} {rest} xs left e room w v =
      let fits : at + length w.done ≤ length b = omega (arith, room, ap length w.whole, length-append w.done rest) in
      record { done = w.done ++ xs; wrote = then fits w.wrote v; whole = append_assoc w.done xs left ∙ ap (λ l. w.done ++ l) (sym e) ∙ w.whole }
