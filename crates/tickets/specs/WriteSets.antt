-- Write sets as lists of pairs of object and value, and playing them over a board.
use Rattle.std.specs.Prelude.{ℕ, suc, Bool, true, false, cond, ◌&&◌, ◌||◌, List, [], ◌∷◌, length, is_some, Some, None, Option, ◌==◌, nat_le, nat_lt, slice_set}
use Rattle.tickets.specs.Boards.{Board}

abbrev pub Pairs : Type 0
Pairs = List (ℕ × ℕ)

-- the objects rise strictly from `low` on, and lie below 128
abbrev pub rising : ℕ → Pairs → Bool
rising low [] = true
rising low ((j, v) ∷ ps) = nat_le low j && (nat_lt j 128 && rising (suc j) ps)

-- one to eight pairs whose objects rise strictly and lie below 128
abbrev pub is_write_set : Pairs → Bool
is_write_set ps = nat_lt 0 (length ps) && (nat_le (length ps) 8 && rising 0 ps)

-- the value that the pairs have for an object, if any
abbrev pub lookup : Pairs → ℕ → Option ℕ
lookup [] j = None
lookup ((i, v) ∷ ps) j = cond (j == i) (Some v) (lookup ps j)

-- the object stands in the pairs
abbrev pub stands : Pairs → ℕ → Bool
stands ps j = is_some (lookup ps j)

-- some object stands in both
abbrev pub shares : Pairs → Pairs → Bool
shares [] qs = false
shares ((i, v) ∷ ps) qs = stands qs i || shares ps qs

-- the named values are replaced, and the others stay
abbrev pub play : Pairs → Board → Board
play [] b = b
play ((i, v) ∷ ps) b = slice_set (play ps b) i v

-- a value, else another
abbrev pub over : Option ℕ → ℕ → ℕ
over None x = x
over (Some v) x = v
