-- The transaction of a number that was given.
use Rattle.std.proofs.Common.{vec_items, ◌∙◌}
use Rattle.ledger.specs.Transactions.{no_transaction}
use Rattle.ledger.proofs.Items.{numbered_given}
use Rattle.ledger.proofs.transactions.Transactions.get.Goals as goal

pub returns : goal.returns
returns c = record { answer = c.get.ensures.answer ∙ numbered_given (vec_items c.args.self.now.given.items) c.args.t no_transaction }
