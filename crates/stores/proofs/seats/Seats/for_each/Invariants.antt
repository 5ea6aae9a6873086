-- The seats passed are changed, and the others are as they were.
use Rattle.stores.specs.Seated.{Leaves}
use Rattle.stores.proofs.Seated.{Turned}
use Rattle.stores.proofs.seats.Seats.for_each.Given as goal

abbrev pub invariant-loop-seat : goal.invariant-loop-seat
invariant-loop-seat g l = Turned (Leaves g.F.Fn l.change) l.initial.seat-items l.seat-items l.seat-index
