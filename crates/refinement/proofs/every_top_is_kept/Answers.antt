use Rattle.refinement.proofs.Tops.{every_opening_within, every_call_within}
use Rattle.refinement.proofs.every_top_is_kept.Goals as goal

pub returns : goal.returns
returns c = record { opening = every_opening_within; calls = every_call_within }
