-- Own writes as a list of pairs.
use Rattle.std.specs.Prelude.{ℕ, Bool, true, not, ◌&&◌, List, [], ◌∷◌, map, is_some, Option, nat_lt}
use Rattle.tickets.specs.WriteSets.{lookup}
use Rattle.tickets.specs.Meaning.{pair_of}
use Rattle.tickets.specs.declared.pair.Pair.{Pair}

-- what the pairs write to object j, if anything
unfoldable pub own_in : List Pair → ℕ → Option ℕ
own_in ps = lookup (map pair_of ps)

-- every object lies below 128 and stands once
unfoldable pub each_once : List Pair → Bool
each_once [] = true
each_once (p ∷ ps) = nat_lt p.object 128 && (not (is_some (own_in ps p.object)) && each_once ps)

-- stands for what lies past the end of the pairs
abbrev pub no_pair : Pair
no_pair = record { object = 0; value = 0 }
