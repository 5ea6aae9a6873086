-- One write into a buffer after another is one write of both.
use Rattle.std.proofs.Common.{◌≡◌, ℕ, ◌+◌, ◌<◌, ◌≤◌, List, [], ◌∷◌, ◌++◌, length, take, drop, set, sym, ap, ◌∙◌, subst, add-one, arith}
use Rattle.std.proofs.lemmas.List.{append_assoc, take_at, drop_at, drop-drop, take-take, take-append-le, length-append, length-take-le, set_split}
use Rattle.answers.specs.Buffers.{written, Wrote}

module _ (b : List ℕ) (at : ℕ) (xs : List ℕ) (room : at + length xs ≤ length b) where
  front_length : length (take at b ++ xs) ≡ at + length xs
  front_length = omega (arith, length-append (take at b) xs, length-take-le at b (omega arith))

  in_two : written b at xs ≡ (take at b ++ xs) ++ drop (at + length xs) b
  in_two = sym (append_assoc (take at b) xs (drop (at + length xs) b))

  before_the_end : take (at + length xs) (written b at xs) ≡ take at b ++ xs
  before_the_end = ap (take (at + length xs)) in_two ∙ take_at (take at b ++ xs) _ _ front_length

  behind_the_end : (k : ℕ) → drop (at + length xs + k) (written b at xs) ≡ drop (at + length xs + k) b
  behind_the_end k =
      let rest = ap (drop (at + length xs)) in_two ∙ drop_at (take at b ++ xs) (drop (at + length xs) b) _ front_length in
      sym (drop-drop k (at + length xs) (written b at xs)) ∙ ap (drop k) rest ∙ drop-drop k (at + length xs) b

  writing_on : (ys : List ℕ) → written (written b at xs) (at + length xs) ys ≡ written b at (xs ++ ys)
  writing_on ys =
      let n : at + length xs + length ys ≡ at + length (xs ++ ys) = omega (arith, length-append xs ys) in
      (λ i. before_the_end i ++ (ys ++ behind_the_end (length ys) i))
      ∙ append_assoc (take at b) xs _
      ∙ ap (λ l. take at b ++ l) (sym (append_assoc xs ys _))
      ∙ ap (λ k. take at b ++ ((xs ++ ys) ++ drop k b)) n

pub one_write_after_another : {b b1 b2 : List ℕ} {at m r : ℕ} {xs ys : List ℕ} → at + length xs ≤ length b → Wrote b at xs b1 m → Wrote b1 m ys b2 r → Wrote b at (xs ++ ys) b2 r
one_write_after_another {b} {b1} {b2} {at} {m} {r} {xs} {ys} room u v = record {
  after = v.after ∙ (λ i. written (u.after i) (u.ends i) ys) ∙ writing_on b at xs room ys;
  ends = omega (arith, u.ends, v.ends, length-append xs ys);
}

pub setting_writes_one_byte : (b : List ℕ) (i v : ℕ) → i < length b → Wrote b i (v ∷ []) (set b i v) (i + 1)
setting_writes_one_byte b i v h = record {
  after = set_split b i v h ∙ ap (λ k. take i b ++ v ∷ drop k b) (sym (add-one i));
  ends = omega arith;
}

pub wrote_equal_bytes : {b b' xs ys : List ℕ} {at end : ℕ} → xs ≡ ys → Wrote b at xs b' end → Wrote b at ys b' end
wrote_equal_bytes {b} {b'} {xs} {ys} {at} {end} e w = subst (λ (l : List ℕ). Wrote b at l b' end) e w

-- and so is one write behind another that ends where it begins
module _ (b : List ℕ) (at m : ℕ) (xs ys : List ℕ) (ends : m ≡ at + length xs) (room : m ≤ length b) where
  front_stays : take at (written b m ys) ≡ take at b
  front_stays = take-append-le at (take m b) _ (omega (arith, length-take-le m b room)) ∙ take-take at m b (omega arith)

  end_stays : drop (at + length xs) (written b m ys) ≡ ys ++ drop (m + length ys) b
  end_stays = drop_at (take m b) _ _ (length-take-le m b room ∙ ends)

  writing_before : written (written b m ys) at xs ≡ written b at (xs ++ ys)
  writing_before =
      let n : m + length ys ≡ at + length (xs ++ ys) = omega (arith, length-append xs ys) in
      (λ i. front_stays i ++ (xs ++ end_stays i))
      ∙ ap (λ l. take at b ++ l) (sym (append_assoc xs ys _))
      ∙ ap (λ k. take at b ++ ((xs ++ ys) ++ drop k b)) n

pub one_write_before_another : {b b1 b2 : List ℕ} {at m end : ℕ} {xs ys : List ℕ} → m ≤ length b → Wrote b m ys b1 end → Wrote b1 at xs b2 m → Wrote b at (xs ++ ys) b2 end
one_write_before_another {b} {b1} {b2} {at} {m} {end} {xs} {ys} room u v = record {
  after = v.after ∙ ap (λ l. written l at xs) u.after ∙ writing_before b at m xs ys v.ends room;
  ends = omega (arith, u.ends, v.ends, length-append xs ys);
}

pub ends_there : {b b' xs : List ℕ} {at end end' : ℕ} → end ≡ end' → Wrote b at xs b' end → Wrote b at xs b' end'
ends_there {b} {b'} {xs} {at} {end} {end'} same w = record { after = w.after; ends = omega (arith, w.ends) }
