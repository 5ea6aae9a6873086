-- How a call is spelled in a line of a script.
use Rattle.std.specs.Prelude.{◌≡◌, ℕ, ◌^◌, ◌<◌, List, [], ◌∷◌, ◌++◌, Some, None, codes, decimal, Option}
use Rattle.std.specs.List.{flat_map, AllByRecursion}
use Rattle.std.specs.Option.{option_map}
use Rattle.calls.specs.declared.call.Call.{Call}
use Rattle.calls.specs.declared.call.Call.TheVariants.{Begin, Read, Write, Commit, GiveUp, Apply, Drain, Value, State, WriteSet, Applied}

-- numbers in a line: each in decimal, one space before each
abbrev pub spaced : List ℕ → List ℕ
spaced ns = flat_map (λ n. 32 ∷ decimal n) ns

-- the numbers of a call
abbrev pub numbers_of : Call → List ℕ
numbers_of (Begin k) = k ∷ []
numbers_of (Read t j) = t ∷ j ∷ []
numbers_of (Write t j v) = t ∷ j ∷ v ∷ []
numbers_of (Commit t) = t ∷ []
numbers_of (GiveUp t) = t ∷ []
numbers_of (Apply k n) = k ∷ n ∷ []
numbers_of (Drain k m) = k ∷ m ∷ []
numbers_of (Value k j) = k ∷ j ∷ []
numbers_of (State t) = t ∷ []
numbers_of (WriteSet n) = n ∷ []
numbers_of (Applied k) = k ∷ []

-- the letter of a call; three questions have none, and no line asks them
abbrev pub letter_of : Call → Option (List ℕ)
letter_of (Begin k) = Some (codes "B")
letter_of (Read t j) = Some (codes "R")
letter_of (Write t j v) = Some (codes "W")
letter_of (Commit t) = Some (codes "C")
letter_of (GiveUp t) = Some (codes "G")
letter_of (Apply k n) = Some (codes "A")
letter_of (Drain k m) = Some (codes "D")
letter_of (Value k j) = Some (codes "V")
letter_of (State t) = None
letter_of (WriteSet n) = None
letter_of (Applied k) = None

-- the line of a call: its letter and its numbers
abbrev pub spelled : Call → Option (List ℕ)
spelled c = option_map (λ l. l ++ spaced (numbers_of c)) (letter_of c)

-- the call's numbers are of 32 bits
abbrev pub Narrow : Call → Type 0
Narrow c = AllByRecursion (λ n. n < 2 ^ 32) (numbers_of c)

-- a line is read as a call exactly where it is that call's spelling
pub record Understands (line : List ℕ) (r : Option Call) : Type 0 where
  pub only : (c : Call) → r ≡ Some c → (spelled c ≡ Some line) × Narrow c
  pub each : (c : Call) → Narrow c → spelled c ≡ Some line → r ≡ Some c
