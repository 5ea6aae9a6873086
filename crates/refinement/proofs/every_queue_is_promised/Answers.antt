use Rattle.refinement.proofs.Queues.{every_queue, own_boards}
use Rattle.refinement.proofs.every_queue_is_promised.Goals as goal

pub returns : goal.returns
returns c = record { queues = every_queue; boards = own_boards }
