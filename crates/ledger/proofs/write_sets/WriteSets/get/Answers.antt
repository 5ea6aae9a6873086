-- The write set of a number that was given.
use Rattle.std.proofs.Common.{vec_items, sym, ap, ◌∙◌}
use Rattle.std.specs.Option.{option_map}
use Rattle.ledger.specs.Sets.{set_of, sets_of, no_set}
use Rattle.ledger.proofs.Items.{numbered-map, numbered_given}
use Rattle.ledger.proofs.write_sets.WriteSets.get.Goals as goal

pub returns : goal.returns
returns c = record { answer = ap (option_map set_of) c.get.ensures.answer ∙ sym (numbered-map set_of (vec_items c.args.self.now.given.items) c.args.n) ∙ numbered_given (sets_of c.args.self.now) c.args.n no_set }
