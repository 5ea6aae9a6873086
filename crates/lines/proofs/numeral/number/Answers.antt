use Rattle.std.proofs.Common.{◌≡◌, ◌<◌, ◌≤◌, length, get_or, ap, ◌∙◌, subst, arith, true-eqb, false-eqb}
use Rattle.std.specs.Char.{digit_value}
use Rattle.lines.proofs.Numerals.{no_such_length_is_read, a_leading_zero_is_not_read, what_is_no_digit_is_not_read, digits_before_the_last, one_digit_more, digits_are_read}
use Rattle.lines.proofs.numeral.number.Goals as goal
use Rattle.lines.proofs.numeral.number.Goals.{then-is_empty-via-then-is_empty, then-is_empty-via-else-is_empty+then-bytes-gt-MOST_DIGITS, else-bytes-gt1-via-then-bytes-gt1+else-bytes-eq48, else-bytes-gt1-via-else-bytes-gt1}

pub returns-then-is_empty : goal.returns-then-is_empty
returns-then-is_empty c = record {
  answer = no_such_length_is_read c.args.bytes.now (λ some. elim c.then-is_empty.branch [
    | then-is_empty-via-then-is_empty w ↦ absurd (omega (arith, true-eqb _ 0 w.if-is_empty.ensures))
    | then-is_empty-via-else-is_empty+then-bytes-gt-MOST_DIGITS w ↦ w.if-bytes-gt-MOST_DIGITS.true
  ]);
}

pub returns-then-bytes-eq48 : goal.returns-then-bytes-eq48
returns-then-bytes-eq48 c = record { answer = a_leading_zero_is_not_read c.args.bytes.now c.if-bytes-gt1.true c.if-bytes-eq48.true }

pub returns-in_err-to_digit : goal.returns-in_err-to_digit
returns-in_err-to_digit c =
    let no_digit = subst (λ x. digit_value x < 10 → ⊥) c.from.ensures c.in_err-to_digit.ensures.value in
    record { answer = c.from_residual.ensures ∙ what_is_no_digit_is_not_read c.args.bytes.now c.loop-b.b-index c.loop-b-test.true no_digit }

pub overflow_mul-value : goal.overflow_mul-value
overflow_mul-value c =
    let read = c.loop-b.invariant in
    omega (arith, read.value, digits_before_the_last c.args.bytes.now c.loop-b.b-index read.all c.loop-b-test.true c.if-bytes-gt-MOST_DIGITS.false)

pub overflow_add-value : goal.overflow_add-value
overflow_add-value c =
    let read = c.loop-b.invariant in
    omega (arith, read.value, digits_before_the_last c.args.bytes.now c.loop-b.b-index read.all c.loop-b-test.true c.if-bytes-gt-MOST_DIGITS.false, c.from-in-loop-b.ensures, c.in_ok-to_digit.ensures.value)

pub loop-b-preserved : goal.loop-b-preserved
loop-b-preserved c =
    let (small, digit) = c.in_ok-to_digit.ensures.value in
    let is = c.from-in-loop-b.ensures ∙ digit ∙ ap digit_value c.from.ensures in
    one_digit_more c.args.bytes.now c.loop-b.b-index c.loop-b.value c.from-in-loop-b.result c.loop-b-test.true is (omega (arith, c.from-in-loop-b.ensures, small, digit)) c.loop-b.invariant

pub returns : goal.returns
returns c =
    let bs = c.args.bytes.now in
    let plain : get_or bs 0 0 ≡ 48 → length bs ≤ 1 = λ zeroed. elim c.else-bytes-gt1.branch [
      | else-bytes-gt1-via-then-bytes-gt1+else-bytes-eq48 w ↦ absurd (w.if-bytes-eq48.false zeroed)
      | else-bytes-gt1-via-else-bytes-gt1 w ↦ omega (arith, w.if-bytes-gt1.false)
    ] in
    record { answer = c.ok.ensures.value ∙ digits_are_read bs c.loop-b.b-index c.loop-b.value c.try_from.result c.loop-b-test.false (omega (arith, false-eqb _ 0 c.if-is_empty.ensures)) plain c.loop-b.invariant c.try_from.ensures }
