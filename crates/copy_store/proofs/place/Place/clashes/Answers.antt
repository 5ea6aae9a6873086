use Rattle.std.proofs.Common.{◌∙◌}
use Rattle.copy_store.proofs.Writes.{clashes_is}
use Rattle.copy_store.proofs.place.Place.clashes.Goals as goal

pub returns : goal.returns
returns c = record { answer = c.meets.ensures.answer ∙ clashes_is c.args.self.now }
