-- Boards: 128 objects, eight fields to a ticket, and the most that each field takes.
use Rattle.std.specs.Prelude.{ℕ, ◌%◌, List, [], ◌∷◌, slice_index}

-- a board lists the values of its 128 objects
abbrev pub Board : Type 0
Board = List ℕ

abbrev pub value : Board → ℕ → ℕ
value b j = slice_index b j

-- the tops of the fields: stage, pages, sheets, plates, fold, press, paper, waste
abbrev pub tops : List ℕ
tops = 12 ∷ 9999 ∷ 1000000 ∷ 64 ∷ 255 ∷ 31 ∷ 65535 ∷ 4294967295 ∷ []

-- the top of an object: object j is field j mod 8 of ticket j div 8
abbrev pub top : ℕ → ℕ
top j = slice_index tops (j % 8)
