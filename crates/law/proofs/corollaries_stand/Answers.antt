use Rattle.law.proofs.corollaries_stand.Goals as goal
use Rattle.law.proofs.Corollaries.{snapshot_isolation, aborts_exactly, same_applied, whole_replica}

pub returns : goal.returns
returns c = record { isolation = snapshot_isolation; aborts = aborts_exactly; same = same_applied; whole = whole_replica }
