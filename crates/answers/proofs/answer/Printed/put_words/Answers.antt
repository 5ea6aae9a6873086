use Rattle.std.proofs.Common.{length, sym, ap, arith}
use Rattle.answers.specs.Printing.{words}
use Rattle.answers.proofs.Lengths.{length-refusal}
use Rattle.answers.proofs.Writing.{one_write_before_another, wrote_equal_bytes}
use Rattle.answers.proofs.answer.Printed.put_words.Goals as goal

pub returns-in-No : goal.returns-in-No
returns-in-No c =
    let both = length-refusal c.in-No.number c.in-No.line in
    let long = ap (λ a. length (words a)) c.in-No.is in
    record { bytes = wrote_equal_bytes (ap words (sym c.in-No.is)) (one_write_before_another (omega arith) c.put_numbered-middle.ensures.bytes c.put_numbered-in-No.ensures.bytes) }
