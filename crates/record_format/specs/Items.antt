-- The items of a run: its write sets in the order of their numbers, from 1, each with its home and its snapshot number s.
use Rattle.std.specs.Prelude.{◌≡◌, ℕ, ◌+◌, Bool, true, cond, ◌&&◌, List, [], ◌∷◌, length, Some, None, Option, nat_le, nat_lt}
use Rattle.tickets.specs.Boards.{Board, top}
use Rattle.tickets.specs.WriteSets.{Pairs, is_write_set, play}

pub record Item : Type 0 where
  pub home : ℕ
  pub s : ℕ
  pub pairs : Pairs

-- no value is above its object's top
abbrev pub within_tops : Pairs → Bool
within_tops [] = true
within_tops ((j, v) ∷ ps) = nat_le v (top j) && within_tops ps

-- a write set within the tops
abbrev pub fine_pairs : Pairs → Bool
fine_pairs ps = is_write_set ps && within_tops ps

-- a pair, unless its value is above its object's top
abbrev pub topped : ℕ × ℕ → Option (ℕ × ℕ)
topped p = cond (nat_le p.1 (top p.0)) (Some p) None

-- pairs, where they are a write set within the tops
abbrev pub accepted : Pairs → Option Pairs
accepted ps = cond (fine_pairs ps) (Some ps) None

-- what may stand at number n: a home from 0 to 7, an s below n, and a write set within the tops
abbrev pub fits : ℕ → Item → Bool
fits n it = nat_le it.home 7 && (nat_lt it.s n && fine_pairs it.pairs)

-- the number of the first item that may not stand at its number, counted from n
abbrev pub first_unfit : ℕ → List Item → Option ℕ
first_unfit n [] = None
first_unfit n (it ∷ its) = cond (fits n it) (first_unfit (n + 1) its) (Some n)

-- why a list is no run: 0 where it has more than 256 items, else its first item that may not stand
abbrev pub unfit : List Item → Option ℕ
unfit its = cond (nat_le (length its) 256) (first_unfit 1 its) (Some 0)

abbrev pub Run : List Item → Type 0
Run its = unfit its ≡ None

-- a board with the items' write sets played over it in number order
abbrev pub play_all : List Item → Board → Board
play_all [] b = b
play_all (it ∷ its) b = play_all its (play it.pairs b)
