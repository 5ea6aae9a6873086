use Rattle.std.proofs.Common.{refl, arith}
use Rattle.stores.proofs.Seated.{updates}
use Rattle.stores.proofs.seats.Seats.update.Goals as goal

pub returns-in-Some : goal.returns-in-Some
returns-in-Some g c = record { after = updates _ c.args.self.now.seats c.args.place _ _ _ _ (omega arith) c.in-Some.is (record { shown = _; shows = c.in-Some.here-is; left = _; met = c.change.ensures; leaves = refl }) }
