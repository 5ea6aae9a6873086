-- Numbers in a line, one space before each: they are read back, and nothing else is.
use Rattle.std.proofs.Common.{◌≡◌, ℕ, zero, suc, ◌^◌, ◌<◌, true, false, List, [], ◌∷◌, ◌++◌, length, drop, Some, None, decimal, Option, sym, refl, ap, ◌∙◌, subst, arith}
use Rattle.std.specs.Str.Parse.{AllDigits}
use Rattle.std.specs.Char.{is_ascii_digit}
use Rattle.std.specs.List.{AllByRecursion}
use Rattle.std.proofs.lemmas.List.{drop_at}
use Rattle.std.proofs.lemmas.Str.Parse.{digit_from_value}
use Rattle.std.proofs.lemmas.Bool.{cond-true, cond-false}
use Rattle.std.proofs.lemmas.Bool.Decides.{nat_tests}
use Rattle.lines.specs.Fronts.{front}
use Rattle.lines.specs.Reading.{number_in, before, numbers_in}
use Rattle.lines.specs.Spelling.{spaced}
use Rattle.lines.specs.Tokens.{Piece, letter, number, some_digits, token_in_front, taken_off, behind_token}
use Rattle.lines.proofs.Cutting.{digits_are_a_number, nothing_is_left_over}
use Rattle.lines.proofs.Numerals.{spelled, decimal_is_read_back, what_is_read_is_decimal}
use Rattle.lines.proofs.Options.{none_is_not_some, same_in_some}

-- no digit comes first
abbrev Stops : List ℕ → Type 0
Stops [] = Unit {0}
Stops (b ∷ bs) = is_ascii_digit b ≡ false

digits_end_where_they_stop : (ds rest : List ℕ) → AllDigits 10 ds → Stops rest → front is_ascii_digit (ds ++ rest) ≡ ds
digits_end_where_they_stop [] [] all stops = refl
digits_end_where_they_stop [] (b ∷ bs) all stops = cond-false _ _ _ stops
digits_end_where_they_stop (d ∷ ds) rest all stops =
    let digit = digit_from_value d all.0 in
    let is : is_ascii_digit d ≡ true = grind (arith, nat_tests) in
    cond-true _ _ _ is ∙ ap (λ l. d ∷ l) (digits_end_where_they_stop ds rest all.1 stops)

spaces_stop_digits : (ns : List ℕ) → Stops (spaced ns)
spaces_stop_digits [] = tt
spaces_stop_digits (n ∷ ns) = refl

number_behind_a_space : (n : ℕ) (rest : List ℕ) → n < 2 ^ 32 → Stops rest → token_in_front (32 ∷ (decimal n ++ rest)) ≡ Some (number (decimal n))
number_behind_a_space n rest narrow stops =
    let s = spelled (decimal n) n narrow refl in
    ap some_digits (digits_end_where_they_stop (decimal n) rest s.all stops)
    ∙ sym (digits_are_a_number (decimal n) (λ none. omega (arith, s.some)))

pub spaced_numbers_are_read_back : (ns : List ℕ) → AllByRecursion (λ n. n < 2 ^ 32) ns → numbers_in (length ns) (spaced ns) ≡ Some ns
unfolding numbers_in
spaced_numbers_are_read_back [] narrow = refl
spaced_numbers_are_read_back (n ∷ ns) (narrow, others) =
    let token = number_behind_a_space n (spaced ns) narrow (spaces_stop_digits ns) in
    let first = ap number_in token ∙ decimal_is_read_back (decimal n) n narrow refl in
    let behind = ap (λ o. drop (length (taken_off o)) (spaced (n ∷ ns))) token ∙ drop_at (32 ∷ decimal n) (spaced ns) _ refl in
    (λ i. before (first i) (numbers_in (length ns) (behind i))) ∙ ap (before (Some n)) (spaced_numbers_are_read_back ns others)

-- numbers of 32 bits, k of them, that a rest of a line spells
pub record Spells (rest : List ℕ) (k : ℕ) (ns : List ℕ) : Type 0 where
  pub is : rest ≡ spaced ns
  pub long : length ns ≡ k
  pub narrow : AllByRecursion (λ n. n < 2 ^ 32) ns

-- the first of several numbers, and the others
record Parts (first : Option ℕ) (others : Option (List ℕ)) (ns : List ℕ) : Type 0 where
  n : ℕ
  ms : List ℕ
  first_is : first ≡ Some n
  others_are : others ≡ Some ms
  all : n ∷ ms ≡ ns

parts : (first : Option ℕ) (others : Option (List ℕ)) (ns : List ℕ) → before first others ≡ Some ns → Parts first others ns
parts None others ns e = none_is_not_some e
parts (Some n) None ns e = none_is_not_some e
parts (Some n) (Some ms) ns e = record { n = n; ms = ms; first_is = refl; others_are = refl; all = same_in_some e }

record Taken (o : Option Piece) (n : ℕ) : Type 0 where
  off : taken_off o ≡ 32 ∷ decimal n
  narrow : n < 2 ^ 32

a_number_is_taken_off : (o : Option Piece) (n : ℕ) → number_in o ≡ Some n → Taken o n
a_number_is_taken_off None n e = none_is_not_some e
a_number_is_taken_off (Some (letter bs)) n e = none_is_not_some e
a_number_is_taken_off (Some (number bs)) n e = let r = what_is_read_is_decimal bs n e in record { off = ap (λ l. 32 ∷ l) r.is; narrow = r.narrow }

pub only_spaced_numbers_are_read : (k : ℕ) (rest ns : List ℕ) → numbers_in k rest ≡ Some ns → Spells rest k ns
unfolding numbers_in
only_spaced_numbers_are_read zero [] ns e = subst (Spells [] 0) (same_in_some e) (record { is = refl; long = refl; narrow = tt })
only_spaced_numbers_are_read zero (b ∷ bs) ns e = none_is_not_some e
only_spaced_numbers_are_read (suc k) rest ns e =
    let p = parts (number_in (token_in_front rest)) (numbers_in k (behind_token rest)) ns e in
    let t = a_number_is_taken_off (token_in_front rest) p.n p.first_is in
    let others = only_spaced_numbers_are_read k (behind_token rest) p.ms p.others_are in
    subst (Spells rest (suc k)) p.all (record {
      is = nothing_is_left_over rest ∙ (λ i. t.off i ++ others.is i);
      long = ap suc others.long;
      narrow = (t.narrow, others.narrow);
    })
