use Rattle.std.proofs.Common.{◌≡◌, ◌+◌, drop}
use Rattle.versions.specs.Pairs.{own_in}
use Rattle.versions.specs.Histories.{after_commit}
use Rattle.versions.specs.Chained.{versions_of, size_of}
use Rattle.versions.proofs.history.commits.add_all.Given as goal

abbrev pub invariant-loop-pair : goal.invariant-loop-pair
invariant-loop-pair l =
    (after_commit (versions_of l.chains) l.commit (own_in (drop l.pair-index l.pairs)) ≡ after_commit (versions_of l.initial.chains) l.commit (own_in l.pairs))
    × (size_of l.chains ≡ size_of l.initial.chains + l.pair-index)
