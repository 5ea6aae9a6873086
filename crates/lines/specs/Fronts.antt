-- The front of a list of bytes.
use Rattle.std.specs.Prelude.{ℕ, Bool, cond, not, List, [], ◌∷◌, ◌==◌}

-- the longest front whose bytes all pass the test
abbrev pub front : (ℕ → Bool) → List ℕ → List ℕ
front p [] = []
front p (b ∷ bs) = cond (p b) (b ∷ front p bs) []

-- any byte but the end of a line
abbrev pub inside : ℕ → Bool
inside b = not (b == 10)
