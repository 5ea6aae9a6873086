-- Begun, and then filled.
use Rattle.std.proofs.Common.{rules}
use Rattle.errands.specs.Replay.{replay}
use Rattle.errands.proofs.replay.replay.Goals as goal

pub returns-in_err-work : goal.returns-in_err-work
unfolding replay
returns-in_err-work g c = search rules

pub returns : goal.returns
unfolding replay
returns g c = search rules
