use Rattle.std.proofs.Common.{◌≡◌, ap, arith}
use Rattle.versions.specs.Histories.{newest}
use Rattle.versions.specs.Chained.{versions_of}
use Rattle.versions.proofs.history.History.new.Goals as goal

pub invariant_of-result : goal.invariant_of-result
invariant_of-result c =
    let s = c.in_ok-chains.chains in
    let m = c.in_ok-chains.ensures in
    record { few = omega arith; sized = omega (arith, m.1); past = (λ j. let e : newest (versions_of s j) ≡ 0 = ap (λ v. newest (v j)) m.0 in omega arith) }
