use Rattle.lines.proofs.Spelling.{read_by_its_letter}
use Rattle.lines.proofs.reading.read_line.Goals as goal

pub returns-in_err-letter : goal.returns-in_err-letter
returns-in_err-letter c =
    let letter = c.in_err-letter.ensures in
    let (answer, law) = read_by_its_letter c.new-tokens.ensures.answer letter.answer letter.after c.from_residual.ensures in
    record { answer = answer; law = law }

pub returns : goal.returns
returns c =
    let letter = c.in_ok-letter.ensures in
    let (answer, law) = read_by_its_letter c.new-tokens.ensures.answer letter.answer letter.after c.call.ensures.answer in
    record { answer = answer; law = law }
