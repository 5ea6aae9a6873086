use Rattle.refinement.proofs.Begun.{every_place}
use Rattle.refinement.proofs.Calls.{every_call, no_store_fault}
use Rattle.refinement.proofs.Opened.{every_making, every_opening}
use Rattle.refinement.proofs.every_call_follows.Goals as goal

pub returns : goal.returns
returns c = record { making = every_making; opening = every_opening; calls = every_call; faults = no_store_fault; places = every_place }
