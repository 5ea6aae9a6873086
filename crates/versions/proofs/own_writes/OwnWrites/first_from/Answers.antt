use Rattle.std.proofs.Common.{◌≡◌, ◌≤◌, leb, length, rules}
use Rattle.std.specs.List.{filter, All, Contains}
use Rattle.std.specs.Option.{MatchOption}
use Rattle.versions.specs.Writes.{held}
use Rattle.versions.proofs.Lowest.{least_is_first}
use Rattle.versions.proofs.own_writes.OwnWrites.first_from.Goals as goal

pub returns : goal.returns
returns c =
    let w = c.args.self.now in
    let j = c.args.object in
    let ys = filter (λ p. leb j p.object) (held w) in
    let least : MatchOption c.min_by_key.result (length ys ≡ 0) (λ m. Contains ys m × All (λ p. m.object ≤ p.object) ys) = search rules in
    record { answer = least_is_first (held w) j c.min_by_key.result w.once least }
