use Rattle.std.proofs.Common.{◌∙◌}
use Rattle.versions.specs.Chained.{versions_of}
use Rattle.versions.proofs.Histories.{value_after}
use Rattle.versions.proofs.history.History.value_at.Goals as goal

pub returns : goal.returns
returns c = record { answer = c.seen.ensures ∙ value_after (versions_of c.args.self.now.chains) c.args.count c.args.object }
