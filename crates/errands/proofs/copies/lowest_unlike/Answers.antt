-- The start has 128 values, one for each object.
use Rattle.std.proofs.Common.{◌==◌, rules, ◌∙◌, not}
use Rattle.std.proofs.lemmas.Iterator.{YieldsList-from_slice}
use Rattle.std.proofs.lemmas.Iterator.Consumers.{YieldsList-from_enumerate}
use Rattle.std.proofs.lemmas.Iterator.Search.{position_from_yields_List}
use Rattle.tickets.specs.Boards.{value}
use Rattle.banks.specs.Model.{store_at}
use Rattle.errands.proofs.Looked.{first_unlike_at}
use Rattle.errands.proofs.copies.lowest_unlike.Goals as goal
use borrow.Author.Tests.{tests}

pub returns : goal.returns
returns g c =
    let start = c.args.start.now in
    let board = (store_at (g.B.Bank.stores c.args.bank.now) c.args.replica).board in
    let at = position_from_yields_List (λ p. not (p.1 == value board p.0)) _ _ c.position.result c.position.ensures.ran (YieldsList-from_enumerate (YieldsList-from_slice start cc) cc) (λ x b q k. search (rules, tests)) in
    record { answer = at ∙ first_unlike_at start board (search rules) }
