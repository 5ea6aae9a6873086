use Rattle.std.proofs.Common.{◌+◌, ◌-◌, ◌%◌, ℕ, sym, arith, length-set}
use Rattle.std.proofs.lemmas.Fmt.{decimal_digit, decimal_step, decimal_nonempty}
use Rattle.answers.proofs.Lengths.{one_digit_more_than_a_tenth}
use Rattle.answers.proofs.Writing.{one_write_before_another, setting_writes_one_byte, wrote_equal_bytes, ends_there}
use Rattle.answers.proofs.bytes.+put_decimal.Goals as goal

pub overflow_sub-last : goal.overflow_sub-last
overflow_sub-last t c = omega (arith, decimal_nonempty c.args.n (omega arith))

pub bounds-buf-last : goal.bounds-buf-last
bounds-buf-last t c = omega (arith, decimal_nonempty c.args.n (omega arith))

pub bounds-buf-last-2 : goal.bounds-buf-last-2
bounds-buf-last-2 t c = omega (arith, decimal_nonempty c.args.n (omega arith))

pub returns-then-n-lt10 : goal.returns-then-n-lt10
returns-then-n-lt10 t c =
    let n = c.args.n in
    let some = decimal_nonempty n (omega arith) in
    record { bytes = ends_there (omega arith) (wrote_equal_bytes (sym (decimal_digit n (omega arith))) (setting_writes_one_byte c.args.buf.now (c.args.end - 1) (48 + n) (omega arith))) }

pub put_decimal-requires : goal.put_decimal-requires
put_decimal-requires t c = (omega arith, (omega (arith, one_digit_more_than_a_tenth c.args.n (omega arith) (omega arith)), omega (arith, length-set {A = ℕ})))

pub returns : goal.returns
returns t c =
    let n = c.args.n in
    let some = decimal_nonempty n (omega arith) in
    let last = setting_writes_one_byte c.args.buf.now (c.args.end - 1) (48 + n % 10) (omega arith) in
    record { bytes = ends_there (omega arith) (wrote_equal_bytes (sym (decimal_step n (omega arith) (omega arith))) (one_write_before_another (omega arith) last c.put_decimal.ensures.bytes)) }
