-- What opening asks of a replica's copy: whether it was used, and its lowest object that is above its top or unlike the starting board.
use Rattle.std.specs.Prelude.{ℕ, zero, suc, ◌+◌, Bool, false, cond, not, ◌||◌, List, [], ◌∷◌, is_some, Some, None, Option, ◌==◌, nat_lt}
use Rattle.stores.specs.Model.{StoreModel, Place}
use Rattle.tickets.specs.Boards.{Board, value, top}

-- some place is open
unfoldable pub any_open : List (Option Place) → Bool
any_open [] = false
any_open (o ∷ os) = is_some o || any_open os

-- a place is open, or a commit wrote
abbrev pub used : StoreModel → Bool
used m = any_open m.places || nat_lt 0 m.commits

-- the lowest of the n objects from j on that passes
unfoldable pub first_object : (ℕ → Bool) → ℕ → ℕ → Option ℕ
first_object f j zero = None
first_object f j (suc n) = cond (f j) (Some j) (first_object f (j + 1) n)

abbrev pub above_top : Board → ℕ → Bool
above_top b j = nat_lt (top j) (value b j)

abbrev pub unlike : Board → Board → ℕ → Bool
unlike a b j = not (value a j == value b j)

abbrev pub first_above_top : Board → Option ℕ
first_above_top b = first_object (above_top b) 0 128

abbrev pub first_unlike : Board → Board → Option ℕ
first_unlike start b = first_object (unlike start b) 0 128
