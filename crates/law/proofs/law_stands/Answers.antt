use Rattle.law.proofs.law_stands.Goals as goal
use Rattle.law.proofs.Opening.{every_making, every_opening, every_call}
use Rattle.law.proofs.Promised.{every_queue}
use Rattle.law.proofs.Queues.{plain_queue}

pub returns : goal.returns
returns c = record { making = every_making; opening = every_opening; calls = every_call; queues = every_queue; plain = plain_queue }
