-- Own writes of a transaction: pairs of object and value, at most eight, their objects rising.
use Rattle.std.specs.Prelude.{ℕ, Bool, true, false, cond, ◌||◌, List, [], ◌∷◌, length, ◌==◌, nat_lt}
use Rattle.tickets.specs.WriteSets.{Pairs, stands}

-- with v for the object j, at its place
abbrev pub put : ℕ → ℕ → Pairs → Pairs
put j v [] = (j, v) ∷ []
put j v ((i, u) ∷ ps) = cond (j == i) ((j, v) ∷ ps) (cond (nat_lt j i) ((j, v) ∷ (i, u) ∷ ps) ((i, u) ∷ put j v ps))

-- j may be written: it is written already, or fewer than eight objects are
abbrev pub room : ℕ → Pairs → Bool
room j ps = stands ps j || nat_lt (length ps) 8

abbrev pub is_empty : Pairs → Bool
is_empty [] = true
is_empty (p ∷ ps) = false

-- objects and values, one after the other
abbrev pub listed : Pairs → List ℕ
listed [] = []
listed ((i, v) ∷ ps) = i ∷ v ∷ listed ps
