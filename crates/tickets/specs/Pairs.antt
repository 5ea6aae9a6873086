-- Pairs of the code as pairs of numbers.
use Rattle.std.specs.Prelude.{ℕ, List, map, take}
use Rattle.tickets.specs.WriteSets.{Pairs}
use Rattle.tickets.specs.declared.pair.Pair.{Pair}

abbrev pub pair_of : Pair → ℕ × ℕ
pair_of p = (p.object, p.value)

-- the first n pairs of an array
abbrev pub pairs_of : ℕ → List Pair → Pairs
pairs_of n ps = map pair_of (take n ps)
