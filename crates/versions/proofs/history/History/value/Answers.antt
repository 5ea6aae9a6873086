use Rattle.std.proofs.Common.{◌∙◌}
use Rattle.versions.specs.Chained.{versions_of}
use Rattle.versions.proofs.Histories.{value_now}
use Rattle.versions.proofs.history.History.value.Goals as goal

pub returns : goal.returns
returns c =
    let h = c.args.self.now in
    record { answer = c.value.ensures ∙ value_now (versions_of h.chains) h.commits c.args.object (h.past c.args.object) }
