use Rattle.std.proofs.Common.{◌∙◌}
use Rattle.copy_store.proofs.Writes.{count_is}
use Rattle.copy_store.proofs.place.Place.own_count.Goals as goal

pub returns : goal.returns
returns c = record { answer = c.count.ensures.answer ∙ count_is c.args.self.now }
