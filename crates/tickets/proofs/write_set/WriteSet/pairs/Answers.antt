use Rattle.tickets.proofs.Sets.{objects_below}
use Rattle.tickets.proofs.write_set.WriteSet.pairs.Goals as goal

pub returns-clause-objects : goal.returns-clause-objects
returns-clause-objects c = objects_below c.args.self.now
