use Rattle.std.proofs.Common.{arith}
use Rattle.versions.specs.Pairs.{own_in}
use Rattle.versions.specs.Chained.{versions_of}
use Rattle.versions.proofs.Commits.{still_past}
use Rattle.versions.proofs.history.History.land.Goals as goal

pub invariant_of-self : goal.invariant_of-self
invariant_of-self c =
    let h = c.args.self.now in
    let e = c.add_all.ensures in record { few = omega (arith, h.few, c.if-self-eq-MOST_COMMITS.false); sized = omega (arith, h.sized, e.size, c.pairs.ensures.few); past = still_past (versions_of h.chains) (versions_of c.add_all.new.chains) h.commits _ (own_in c.pairs.result.now) e.versions (omega arith) h.past }
