-- A script as its lines, and how long a script may be.
use Rattle.std.specs.Prelude.{◌≡◌, ℕ, Bool, cond, ◌&&◌, List, [], ◌∷◌, length, Some, None, Option, ◌==◌, nat_le}
use Rattle.std.specs.Borrow.{Bor}
use Rattle.lines.specs.declared.lines.Lines.{Lines}

abbrev Bytes : Type 0
Bytes = Bor (List ℕ)

-- a byte in front of the first line
abbrev pub onto : ℕ → List (List ℕ) → List (List ℕ)
onto b [] = (b ∷ []) ∷ []
onto b (l ∷ ls) = (b ∷ l) ∷ ls

-- each line ends with byte 10, which the last may lack; an empty script has none
unfoldable pub lines_of : List ℕ → List (List ℕ)
lines_of [] = []
lines_of (b ∷ bs) = cond (b == 10) ([] ∷ lines_of bs) (onto b (lines_of bs))

-- a script has at most 16,384 bytes and 1,024 lines
abbrev pub within_limits : List ℕ → Bool
within_limits s = nat_le (length s) 16384 && nat_le (length (lines_of s)) 1024

-- the lines that are still to be handed out
abbrev pub lines_left : Lines → List (List ℕ)
lines_left l = lines_of l.rest.now

-- the first line is handed out, and the others are left; none is handed out where none was left
abbrev pub HandsOut : List (List ℕ) → Option (List ℕ) → List (List ℕ) → Type 0
HandsOut ls None rest = (ls ≡ []) × (rest ≡ [])
HandsOut ls (Some l) rest = ls ≡ l ∷ rest

-- a line, and the lines of what comes behind it
abbrev pub parted : Option (Bytes × Bytes) → List (List ℕ)
parted None = []
parted (Some (line, rest)) = line.now ∷ lines_of rest.now
