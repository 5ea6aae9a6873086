use Rattle.std.proofs.Common.{◌≡◌, ◌≤◌, map, vec_items}
use Rattle.ledger.specs.Words.{count, whole}
use Rattle.ledger.specs.Sets.{set_of, applied_at}
use Rattle.ledger.proofs.write_sets.WriteSets.progress.Given as goal

abbrev pub invariant-loop-i : goal.invariant-loop-i
invariant-loop-i l =
    let f = applied_at (map set_of (vec_items l.self.given.items)) l.replica in
    (l.applied ≡ count f l.i) × (l.whole ≡ whole f l.i) × (l.applied ≤ l.i)
