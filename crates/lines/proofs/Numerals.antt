-- The decimal digits of a number of 32 bits, and the number that digits spell.
use Rattle.std.proofs.Common.{◌≡◌, ℕ, ◌+◌, ◌-◌, ◌*◌, ◌^◌, ◌<◌, ◌≤◌, true, ◌&&◌, eqb, ltb, List, [], ◌∷◌, length, get_or, take, Some, None, Ok, Err, decimal, Option, Result, sym, refl, ap, ◌∙◌, subst, inl, inr, arith, lit<}
use Rattle.std.specs.Str.Parse.{AllDigits, digits_value}
use Rattle.std.specs.Char.{digit_value}
use Rattle.std.specs.Int.{IsInRange}
use Rattle.std.proofs.lemmas.Bool.Decides.{nat_tests}
use Rattle.std.proofs.lemmas.List.{take_all, length-take-le}
use Rattle.std.proofs.lemmas.Int.Digits.{digits_value-lt, digits_more, digits_value_more}
use Rattle.std.specs.Result.{OkIff, result_ok}
use native.Mathlib.Nat.{pow-le-pow_right}
use Rattle.std.proofs.lemmas.Bool.{false≢true, cases_eq, cond-true, cond_both, and_parts, and_from, eqb-true, eq-eqb, ltb-true, lt-ltb}
use Rattle.std.proofs.lemmas.Str.Parse.{numerals_by_value, tells_digits, digit_at}
use Rattle.std.proofs.lemmas.Fmt.{decimal_nonempty, length-decimal-le, decimal_is_IsNumeral, decimal_digit, first_decimal, decimal-digits_value}
use Rattle.lines.specs.Numerals.{same, spelled_by, numeral}
use Rattle.lines.proofs.Options.{none_is_not_some, same_in_some}

-- what the decimal digits of a number of 32 bits are like
pub record Spelled (ds : List ℕ) (n : ℕ) : Type 0 where
  pub some : 0 < length ds
  pub few : length ds ≤ 10
  pub all : AllDigits 10 ds
  pub reads : digits_value 10 ds ≡ n
  pub plain : get_or ds 0 0 ≡ 48 → length ds ≡ 1

no_leading_zero : (n : ℕ) → n < 2 ^ 32 → get_or (decimal n) 0 0 ≡ 48 → length (decimal n) ≡ 1
no_leading_zero n h zeroed =
    elim (cases_eq n 0) [
      | inl e ↦ ap length (decimal_digit n (omega arith))
      | inr d ↦ absurd (omega (arith, first_decimal n (omega arith) (omega arith)))
    ]

pub spelled : (ds : List ℕ) (n : ℕ) → n < 2 ^ 32 → ds ≡ decimal n → Spelled ds n
spelled ds n h e =
    subst (λ (l : List ℕ). Spelled l n) (sym e) (record {
      some = decimal_nonempty n (omega arith);
      few = length-decimal-le 10 n (omega arith) (omega arith) (omega arith);
      all = (decimal_is_IsNumeral n (omega arith)).0.1;
      reads = (decimal_is_IsNumeral n (omega arith)).1;
      plain = no_leading_zero n h;
    })

-- plain digits are the decimal of their value
pub digits_spell_their_value : (ds : List ℕ) → AllDigits 10 ds → 0 < length ds → (get_or ds 0 0 ≡ 48 → length ds ≡ 1) → digits_value 10 ds < 2 ^ 32 → ds ≡ decimal (digits_value 10 ds)
digits_spell_their_value ds all some plain small = sym (decimal-digits_value (numerals_by_value (AllDigits 10) tells_digits) ds all some plain (omega arith))

same_is_equal : (xs ys : List ℕ) → same xs ys ≡ true → xs ≡ ys
same_is_equal [] [] e = refl
same_is_equal [] (y ∷ ys) e = absurd (false≢true e)
same_is_equal (x ∷ xs) [] e = absurd (false≢true e)
same_is_equal (x ∷ xs) (y ∷ ys) e =
    let both = and_parts (eqb x y) (same xs ys) e in
    (λ i. eqb-true x y both.0 i ∷ same_is_equal xs ys both.1 i)

same_as_itself : (xs : List ℕ) → same xs xs ≡ true
same_as_itself [] = refl
same_as_itself (x ∷ xs) = and_from (eqb x x) (same xs xs) (eq-eqb x x refl) (same_as_itself xs)

-- the number, where the bytes are its decimal
pub decimal_is_read_back : (bs : List ℕ) (n : ℕ) → n < 2 ^ 32 → bs ≡ decimal n → numeral bs ≡ Some n
unfolding numeral
decimal_is_read_back bs n h e =
    let s = spelled bs n h e in
    let w : ltb n (2 ^ 32) && same bs (decimal n) ≡ true = and_from _ _ (lt-ltb n (2 ^ 32) h) (ap (λ l. same bs l) (sym e) ∙ same_as_itself bs) in
    ap (spelled_by bs) s.reads ∙ cond-true _ _ _ w

-- and it is a number only there
pub record Reads (bs : List ℕ) (n : ℕ) : Type 0 where
  pub narrow : n < 2 ^ 32
  pub is : bs ≡ decimal n

read_only_there : (bs : List ℕ) (v n : ℕ) → spelled_by bs v ≡ Some n → Reads bs n
read_only_there bs v n =
    cond_both (ltb v (2 ^ 32) && same bs (decimal v)) (Some v) None (λ o. o ≡ Some n → Reads bs n)
    (λ t e.
    let both = and_parts (ltb v (2 ^ 32)) (same bs (decimal v)) t in
    subst (Reads bs) (same_in_some e) (record { narrow = ltb-true v (2 ^ 32) both.0; is = same_is_equal bs (decimal v) both.1 }))
    (λ _ e. none_is_not_some e)

pub what_is_read_is_decimal : (bs : List ℕ) (n : ℕ) → numeral bs ≡ Some n → Reads bs n
unfolding numeral
what_is_read_is_decimal bs n e = read_only_there bs (digits_value 10 bs) n e

nothing : (bs : List ℕ) (o : Option ℕ) → ((n : ℕ) → o ≡ Some n → ⊥) → o ≡ None
nothing bs None no-n = refl
nothing bs (Some n) no-n = absurd (no-n n refl)

pub nothing_is_read : (bs : List ℕ) → ((n : ℕ) → n < 2 ^ 32 → bs ≡ decimal n → ⊥) → numeral bs ≡ None
nothing_is_read bs none = nothing bs (numeral bs) (λ n e. let r = what_is_read_is_decimal bs n e in none n r.narrow r.is)

-- ---- read digit by digit

-- the first i bytes are digits, and v is their value
pub record Read (bs : List ℕ) (i v : ℕ) : Type 0 where
  pub all : AllDigits 10 (take i bs)
  pub value : v ≡ digits_value 10 (take i bs)

pub one_digit_more : (bs : List ℕ) (i v d : ℕ) → i < length bs → d ≡ digit_value (get_or bs i 0) → d < 10 → Read bs i v → Read bs (i + 1) (v * 10 + d)
one_digit_more bs i v d h is small r = record {
  all = digits_more 10 bs i h r.all (subst (λ x. x < 10) is small);
  value = (λ j. r.value j * 10 + is j) ∙ sym (digits_value_more 10 bs i h);
}

-- fewer than ten digits are below ten to the nine
pub digits_before_the_last : (ds : List ℕ) (i : ℕ) → AllDigits 10 (take i ds) → i < length ds → length ds ≤ 10 → digits_value 10 (take i ds) < 1000000000
digits_before_the_last ds i all h few =
    let a = digits_value-lt 10 (take i ds) all in
    let b = length-take-le i ds (omega arith) in
    let p = pow-le-pow_right {n = 10} (lit< tt) {i = length (take i ds)} {j = 9} (omega arith) in
    omega arith

pub no_such_length_is_read : (bs : List ℕ) → (0 < length bs → 10 < length bs) → None ≡ numeral bs
no_such_length_is_read bs none_or_many = sym (nothing_is_read bs (λ n h is. let s = spelled bs n h is in omega (arith, s.few, none_or_many s.some)))

pub a_leading_zero_is_not_read : (bs : List ℕ) → 1 < length bs → get_or bs 0 0 ≡ 48 → None ≡ numeral bs
a_leading_zero_is_not_read bs long zeroed = sym (nothing_is_read bs (λ n h is. let one = (spelled bs n h is).plain zeroed in omega arith))

digit_value_lem : (b : ℕ) → IsInRange 48 57 b → digit_value b ≡ b - 48
digit_value_lem b h = grind (arith, nat_tests)

pub what_is_no_digit_is_not_read : (bs : List ℕ) (i : ℕ) → i < length bs → (digit_value (get_or bs i 0) < 10 → ⊥) → None ≡ numeral bs
what_is_no_digit_is_not_read bs i h no-digit = sym (nothing_is_read bs (λ n small is.
    let digit = digit_at bs i (spelled bs n small is).all h in
    no-digit (omega (arith, digit, digit_value_lem _ digit))))

-- digits without leading zeros are read where their value is of 32 bits
pub digits_are_read : {E : Type 0} (bs : List ℕ) (i v : ℕ) (r : Result ℕ E) → length bs ≤ i → 0 < length bs → (get_or bs 0 0 ≡ 48 → length bs ≤ 1) → Read bs i v → OkIff r (v < 2 ^ 32) v → result_ok r ≡ numeral bs
digits_are_read bs i v (Ok w) whole some plain read (small, value) =
    let all = take_all i bs whole in
    let is : digits_value 10 bs ≡ w = ap (digits_value 10) (sym all) ∙ sym read.value ∙ sym value in
    let spell = digits_spell_their_value bs (subst (AllDigits 10) all read.all) some (λ zeroed. let few = plain zeroed in omega arith) (omega (arith, is)) in
    sym (decimal_is_read_back bs w (omega arith) (spell ∙ ap decimal is))
digits_are_read bs i v (Err e) whole some plain read large =
    let is : digits_value 10 bs ≡ v = ap (digits_value 10) (sym (take_all i bs whole)) ∙ sym read.value in
    sym (nothing_is_read bs (λ n small spell. large (omega (arith, is, (spelled bs n small spell).reads))))
