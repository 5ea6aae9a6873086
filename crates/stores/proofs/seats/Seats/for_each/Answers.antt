use Rattle.std.proofs.Common.{refl, arith}
use Rattle.stores.proofs.Seated.{turned_all, turns, passes}
use Rattle.stores.proofs.seats.Seats.for_each.Goals as goal
use Rattle.stores.proofs.seats.Seats.for_each.Goals.{in-Some, in_default}

pub loop-seat-preserved : goal.loop-seat-preserved
loop-seat-preserved g c =
    elim c.match-seat.branch [
      | in-Some w ↦ rw w.seat-items-is (turns _ _ _ _ _ _ _ c.loop-seat.invariant (omega arith) w.in-Some.is (record { shown = _; shows = refl; left = _; met = w.change.ensures; leaves = refl }))
      | in_default w ↦ rw w.seat-items-is (passes _ _ _ _ _ c.loop-seat.invariant (omega arith) w.in_default.is)
    ]

pub returns : goal.returns
returns g c = record { after = turned_all _ _ _ _ c.loop-seat.invariant (omega arith) }
