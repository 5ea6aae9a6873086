-- How long the decimal digits of a number of 32 bits are, and how long an answer is.
use Rattle.std.proofs.Common.{◌≡◌, ℕ, ◌+◌, ◌/◌, ◌%◌, ◌^◌, ◌<◌, ◌≤◌, ◌++◌, length, codes, decimal, ap, ◌∙◌, arith}
use Rattle.std.proofs.lemmas.List.{length-append, length_push}
use Rattle.std.proofs.lemmas.Fmt.{decimal_digit, decimal_step, length-decimal-le}
use Rattle.answers.specs.declared.answer.Printed.{Printed}
use Rattle.answers.specs.declared.answer.Printed.TheVariants.{No}
use Rattle.answers.specs.Printing.{words, printed}

pub at_most_ten_digits : (n : ℕ) → n < 2 ^ 32 → length (decimal n) ≤ 10
at_most_ten_digits n h = length-decimal-le 10 n (omega arith) (omega arith) (omega arith)

pub one_digit_below_ten : (n : ℕ) → n < 10 → length (decimal n) ≡ 1
one_digit_below_ten n h = ap length (decimal_digit n h)

pub one_digit_more_than_a_tenth : (n : ℕ) → 10 ≤ n → n < 2 ^ 32 → length (decimal n) ≡ length (decimal (n / 10)) + 1
one_digit_more_than_a_tenth n big h = ap length (decimal_step n big (omega arith)) ∙ length_push (decimal (n / 10)) (48 + n % 10)

pub length-printed : (a : Printed) → length (printed a) ≡ length (words a) + 1
length-printed a = length_push (words a) 10

pub length-refusal : (number line : ℕ) → length (words (No number line)) ≡ 4 + length (decimal number) + length (decimal line)
length-refusal number line = omega (arith, length-append (codes "no " ++ decimal number) (codes " " ++ decimal line))
