use Rattle.std.proofs.Common.{sym, arith}
use Rattle.answers.proofs.Lengths.{at_most_ten_digits, one_digit_below_ten, one_digit_more_than_a_tenth}
use Rattle.answers.proofs.bytes.+digits.Goals as goal

pub returns-then-n-lt10 : goal.returns-then-n-lt10
returns-then-n-lt10 t c = record { answer = sym (one_digit_below_ten c.args.n (omega arith)); most = omega arith }

pub returns : goal.returns
returns t c =
    let more = one_digit_more_than_a_tenth c.args.n (omega arith) (omega arith) in
    let most = at_most_ten_digits c.args.n (omega arith) in
    record { answer = omega (arith, c.digits.ensures.answer); most = omega (arith, c.digits.ensures.answer) }
