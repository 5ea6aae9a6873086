use Rattle.std.proofs.Common.{rules}
use Rattle.beside.specs.Halves.{left_answer, right_answer}
use Rattle.beside.proofs.BesideBank.is_open.Goals as goal

pub returns-in-None : goal.returns-in-None
returns-in-None g c = search (rules, left_answer)

pub returns-in-Some : goal.returns-in-Some
returns-in-Some g c = search (rules, right_answer, c.in-Some.ensures.answer, c.under.ensures.answer)
