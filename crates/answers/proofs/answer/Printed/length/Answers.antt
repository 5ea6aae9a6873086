use Rattle.std.proofs.Common.{length, ap, arith}
use Rattle.answers.specs.Printing.{words}
use Rattle.answers.proofs.Lengths.{length-printed, length-refusal}
use Rattle.answers.proofs.answer.Printed.length.Goals as goal

pub returns-in-OkNumber : goal.returns-in-OkNumber
returns-in-OkNumber c =
    let whole = length-printed c.args.self in
    record { answer = omega (arith, ap (λ a. length (words a)) c.in-OkNumber.is); law = omega arith }

pub returns-in-Abort : goal.returns-in-Abort
returns-in-Abort c =
    let whole = length-printed c.args.self in
    record { answer = omega (arith, ap (λ a. length (words a)) c.in-Abort.is); law = omega arith }

pub returns-in-No : goal.returns-in-No
returns-in-No c =
    let whole = length-printed c.args.self in
    let both = length-refusal c.in-No.number c.in-No.line in
    record { answer = omega (arith, ap (λ a. length (words a)) c.in-No.is); law = omega arith }
