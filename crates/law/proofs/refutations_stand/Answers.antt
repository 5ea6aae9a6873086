use Rattle.law.proofs.refutations_stand.Goals as goal
use Rattle.law.proofs.Refutations.{scene_stands, refuted}

pub returns : goal.returns
returns c = record { scene = scene_stands; refuted = refuted }
