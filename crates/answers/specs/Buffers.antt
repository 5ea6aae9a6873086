-- A lent buffer with bytes written at a place.
use Rattle.std.specs.Prelude.{◌≡◌, ℕ, ◌+◌, ◌<◌, ◌≤◌, List, ◌++◌, length, take, drop, Some, None, Option}

-- the bytes stand at the place, and all others stay
abbrev pub written : List ℕ → ℕ → List ℕ → List ℕ
written b at xs = take at b ++ (xs ++ drop (at + length xs) b)

-- b' is b with the bytes at the place, and `end` is where they end
pub record Wrote (b : List ℕ) (at : ℕ) (xs b' : List ℕ) (end : ℕ) : Type 0 where
  pub after : b' ≡ written b at xs
  pub ends : end ≡ at + length xs

-- the bytes are written where there is room for all of them, and otherwise none is
abbrev pub WroteIfRoom : List ℕ → ℕ → List ℕ → List ℕ → Option ℕ → Type 0
WroteIfRoom b at xs b' None = (length b < at + length xs) × (b' ≡ b)
WroteIfRoom b at xs b' (Some end) = (at + length xs ≤ length b) × Wrote b at xs b' end
