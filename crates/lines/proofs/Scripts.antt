-- The first line of a script, and the others.
use Rattle.std.proofs.Common.{◌≡◌, ℕ, suc, ◌+◌, ◌<◌, ◌≤◌, Bool, true, false, cond, not, eqb, List, [], ◌∷◌, length, take, drop, Some, None, Option, sym, refl, ap, ◌∙◌, ◌⊎◌, ⊎_elim, add-one, arith, Bor}
use Rattle.std.specs.List.{slice_range}
use Rattle.std.specs.Option.{MatchOption, unwrap_or}
use Rattle.std.proofs.lemmas.List.{drop-drop, nil_from_length, take_rest}
use Rattle.lines.specs.Fronts.{front, inside}
use Rattle.lines.specs.Scripts.{onto, lines_of}
use Rattle.lines.proofs.Fronts.{front_comes_first}

-- the front up to the first end of line, and the lines behind that end
abbrev cut : List ℕ → List (List ℕ)
cut s = front inside s ∷ lines_of (drop (suc (length (front inside s))) s)

-- a byte before what is cut: an end of line (e is true), or one more byte of the first line
byte_before_a_cut : (e : Bool) (b : ℕ) (bs : List ℕ) → (0 < length bs → lines_of bs ≡ cut bs) → cond e ([] ∷ lines_of bs) (onto b (lines_of bs)) ≡ cond (not e) (b ∷ front inside bs) [] ∷ lines_of (drop (length (cond (not e) (b ∷ front inside bs) [])) bs)
unfolding lines_of
byte_before_a_cut true b bs h = refl
byte_before_a_cut false b [] h = refl
byte_before_a_cut false b (x ∷ bs) h = ap (onto b) (h (omega arith))

first_line_and_the_others : (s : List ℕ) → 0 < length s → lines_of s ≡ cut s
unfolding lines_of
first_line_and_the_others [] h = absurd (omega arith)
first_line_and_the_others (b ∷ bs) h = byte_before_a_cut (eqb b 10) b bs (first_line_and_the_others bs)

-- a script split behind its first n bytes, the front, and once more behind the end of line
pub parting_a_line_off : (s line behind rest : List ℕ) (n : ℕ) → 0 < length s → n ≡ length (front inside s) → line ≡ take n s → behind ≡ drop n s → rest ≡ drop 1 behind → line ∷ lines_of rest ≡ lines_of s
parting_a_line_off s line behind rest n some is front-is behind-is rest_is =
    let l = front-is ∙ ap (λ k. take k s) is ∙ front_comes_first inside s in
    let r = rest_is ∙ ap (drop 1) behind-is ∙ drop-drop 1 n s ∙ ap (λ k. drop k s) (add-one n ∙ ap suc is) in
    (λ i. l i ∷ lines_of (r i)) ∙ sym (first_line_and_the_others s some)

-- what stands behind the end of line, if there is one
pub behind_the_end : (behind : Bor (List ℕ)) (o : Option (Bor (List ℕ))) → MatchOption o ((length behind.now < 1) ⊎ (length behind.now < length behind.now)) (λ l. (1 ≤ length behind.now) × (length behind.now ≤ length behind.now) × (l.now ≡ slice_range behind.now 1 (length behind.now)) × (length l.now + 1 ≡ length behind.now)) → (unwrap_or o behind).now ≡ drop 1 behind.now
behind_the_end behind None m = let none = nil_from_length behind.now (⊎_elim (λ h. omega arith) (λ h. omega arith) m) in none ∙ sym (ap (drop 1) none)
behind_the_end behind (Some l) m = m.2 ∙ take_rest behind.now 1

byte_onto_lines : (e : Bool) (b : ℕ) (ls : List (List ℕ)) → length (cond e ([] ∷ ls) (onto b ls)) ≤ length ls + 1
byte_onto_lines true b ls = omega arith
byte_onto_lines false b [] = omega arith
byte_onto_lines false b (l ∷ ls) = omega arith

pub no_more_lines_than_bytes : (s : List ℕ) → length (lines_of s) ≤ length s
unfolding lines_of
no_more_lines_than_bytes [] = omega arith
no_more_lines_than_bytes (b ∷ bs) = omega (arith, byte_onto_lines (eqb b 10) b (lines_of bs), no_more_lines_than_bytes bs)

pub no_bytes_are_no_lines : (s : List ℕ) → length s ≡ 0 → [] ≡ lines_of s
unfolding lines_of
no_bytes_are_no_lines [] none = refl
no_bytes_are_no_lines (b ∷ bs) none = absurd (omega arith)
