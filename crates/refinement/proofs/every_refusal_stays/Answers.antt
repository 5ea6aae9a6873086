use Rattle.refinement.proofs.Refusals.{every_opening_stays, every_refusal_stays}
use Rattle.refinement.proofs.every_refusal_stays.Goals as goal

pub returns : goal.returns
returns c = record { opening = every_opening_stays; calls = every_refusal_stays }
