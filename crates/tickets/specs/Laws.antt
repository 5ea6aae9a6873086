-- What every layer above may lean on, whatever the write sets are.
use Rattle.std.specs.Prelude.{◌≡◌, ℕ, ◌^◌, ◌<◌, true, false, ◌↔◌, length}
use Rattle.tickets.specs.Boards.{Board, value, top}
use Rattle.tickets.specs.WriteSets.{Pairs, lookup, stands, shares, play, over}

-- an object that stands in both
abbrev pub Common : Pairs → Pairs → Type 0
Common ps qs = (j : ℕ) × ((stands ps j ≡ true) × (stands qs j ≡ true))

pub record PlayingLaws : Type 0 where
  -- an object comes to the value that the pairs have for it, and stays where they have none
  pub at_each_object : (ps : Pairs) (b : Board) (j : ℕ) → j < length b → value (play ps b) j ≡ over (lookup ps j) (value b j)
  -- a board keeps its size
  pub same_size : (ps : Pairs) (b : Board) → length (play ps b) ≡ length b
  -- where both write an object, the later one stays
  pub later_stays : (ps qs : Pairs) (b : Board) (j : ℕ) → j < length b → stands qs j ≡ true → value (play qs (play ps b)) j ≡ value (play qs b) j
  -- what shares nothing may change places
  pub may_change_places : (ps qs : Pairs) (b : Board) → shares ps qs ≡ false → play qs (play ps b) ≡ play ps (play qs b)

pub record SharingLaws : Type 0 where
  pub is_a_common_object : (ps qs : Pairs) → (shares ps qs ≡ true) ↔ Common ps qs
  pub either_way : (ps qs : Pairs) → shares ps qs ≡ shares qs ps

-- every top fits in 32 bits
abbrev pub TopsFit : Type 0
TopsFit = (j : ℕ) → top j < 2 ^ 32
