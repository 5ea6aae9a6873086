use Rattle.std.proofs.Common.{refl, rules}
use Rattle.versions.specs.Pairs.{own_in, each_once}
use Rattle.versions.proofs.own_writes.OwnWrites.none.Goals as goal

pub invariant_of-result : goal.invariant_of-result
unfolding own_in each_once
invariant_of-result c = search rules

pub returns : goal.returns
unfolding own_in
returns c = record { answer = refl }
