-- Cutting the token in front off a line.
use Rattle.std.proofs.Common.{◌≡◌, ℕ, ◌+◌, ◌-◌, ◌≤◌, eqb, ltb, List, [], ◌∷◌, ◌++◌, length, get_or, take, drop, Some, Option, sym, refl, ap, ◌∙◌, arith, Bor}
use Rattle.std.specs.Bool.{then_some}
use Rattle.std.specs.Char.{is_ascii_digit, is_ascii_alphabetic}
use Rattle.std.specs.List.{take_while}
use Rattle.std.specs.Option.{option_map}
use Rattle.lines.specs.declared.token.Token.TheVariants.{Number}
use Rattle.std.proofs.lemmas.List.{drop-drop, take_rest, take-append-drop}
use Rattle.std.proofs.lemmas.Bool.{cond_both, eqb-true, lt-ltb}
use Rattle.lines.specs.Fronts.{front}
use Rattle.lines.specs.Tokens.{Piece, number, piece, some_digits, token_in_front, taken_off, behind_token}
use Rattle.lines.proofs.Fronts.{take_while_is_front, front_comes_first, front_is_short}

pub digits_are_a_number : (ds : List ℕ) → (length ds ≡ 0 → ⊥) → Some (number ds) ≡ some_digits ds
digits_are_a_number [] some = absurd (some refl)
digits_are_a_number (d ∷ ds) some = refl

-- a token of n digits, if n is not 0
digits_or_none : (ds : List ℕ) (n at : ℕ) (bytes : Bor (List ℕ)) → n ≡ length ds → bytes.now ≡ ds → option_map piece (then_some (ltb 0 n) (Number bytes at)) ≡ some_digits ds
digits_or_none [] n at bytes long is = ap (λ k. option_map piece (then_some (ltb 0 k) (Number bytes at))) long
digits_or_none (d ∷ ds) n at bytes long is =
    ap (λ b. option_map piece (then_some b (Number bytes at))) (lt-ltb 0 n (omega (arith, long))) ∙ ap (λ l. Some (number l)) is

-- behind a space
pub number_in_front : (rest : List ℕ) (n at : ℕ) (bytes : Bor (List ℕ)) → get_or rest 0 0 ≡ 32 → n ≡ length (take_while is_ascii_digit (drop 1 rest)) → bytes.now ≡ take n (drop 1 rest) → option_map piece (then_some (ltb 0 n) (Number bytes at)) ≡ token_in_front rest
number_in_front [] n at bytes space long is = absurd (omega arith)
number_in_front (b ∷ bs) n at bytes space long is =
    let counted = long ∙ ap length (take_while_is_front is_ascii_digit bs) in
    digits_or_none (front is_ascii_digit bs) n at bytes counted (is ∙ ap (λ k. take k bs) counted ∙ front_comes_first is_ascii_digit bs)
    ∙ ap (λ x. token_in_front (x ∷ bs)) (sym space)

-- what stands behind the first byte there
pub behind_the_first : (line : List ℕ) (at : ℕ) → let rest = take (length line - at) (drop at line) in take (length rest - 1) (drop 1 rest) ≡ drop 1 (drop at line)
behind_the_first line at = ap (λ r. take (length r - 1) (drop 1 r)) (take_rest line at) ∙ take_rest (drop at line) 1

-- the bytes come first in the list
pub record First (xs rest : List ℕ) : Type 0 where
  pub short : length xs ≤ length rest
  pub first : take (length xs) rest ≡ xs

no_bytes_come_first : (rest : List ℕ) → First [] rest
no_bytes_come_first rest = record { short = omega arith; first = refl }

digits_come_first : (bs ds : List ℕ) → First ds bs → First (taken_off (some_digits ds)) (32 ∷ bs)
digits_come_first bs [] h = no_bytes_come_first (32 ∷ bs)
digits_come_first bs (d ∷ ds) h = record { short = omega (arith, h.short); first = ap (λ l. 32 ∷ l) h.first }

pub what_is_taken_off_comes_first : (rest : List ℕ) → First (taken_off (token_in_front rest)) rest
what_is_taken_off_comes_first [] = no_bytes_come_first []
what_is_taken_off_comes_first (b ∷ bs) =
    let P : Option Piece → Type 0 = λ o. First (taken_off o) (b ∷ bs) in
    cond_both (is_ascii_alphabetic b) _ _ P
    (λ _. record { short = omega arith; first = refl })
    (λ _. cond_both (eqb b 32) _ _ P
    (λ space. rw (eqb-true b 32 space) (digits_come_first bs (front is_ascii_digit bs) (record { short = front_is_short is_ascii_digit bs; first = front_comes_first is_ascii_digit bs })))
    (λ _. no_bytes_come_first (b ∷ bs)))

pub nothing_is_left_over : (rest : List ℕ) → rest ≡ taken_off (token_in_front rest) ++ behind_token rest
nothing_is_left_over rest =
    let t = taken_off (token_in_front rest) in
    sym (take-append-drop (length t) rest) ∙ ap (λ l. l ++ behind_token rest) (what_is_taken_off_comes_first rest).first

-- the cut goes on behind the w bytes that it takes off at a place of the line
module _ (line : List ℕ) (at w : ℕ) (o : Option Piece) (is : o ≡ token_in_front (drop at line)) (wide : w ≡ length (taken_off o)) where
  pub going_on_behind_the_token : drop (at + w) line ≡ behind_token (drop at line)
  going_on_behind_the_token = sym (drop-drop w at line) ∙ ap (λ k. drop k (drop at line)) (wide ∙ ap (λ t. length (taken_off t)) is)

  pub token_and_what_is_left : drop at line ≡ taken_off o ++ drop (at + w) line
  token_and_what_is_left = nothing_is_left_over (drop at line) ∙ (λ i. taken_off (sym is i) ++ sym going_on_behind_the_token i)
