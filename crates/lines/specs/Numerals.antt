-- Decimal numbers of 32 bits.
use Rattle.std.specs.Prelude.{ℕ, ◌^◌, Bool, true, false, cond, ◌&&◌, List, [], ◌∷◌, Some, None, decimal, Option, ◌==◌, nat_lt}
use Rattle.std.specs.Str.Parse.{digits_value}

abbrev pub same : List ℕ → List ℕ → Bool
same [] [] = true
same [] (y ∷ ys) = false
same (x ∷ xs) [] = false
same (x ∷ xs) (y ∷ ys) = x == y && same xs ys

-- a number of 32 bits, where the bytes are its decimal
abbrev pub spelled_by : List ℕ → ℕ → Option ℕ
spelled_by bs n = cond (nat_lt n (2 ^ 32) && same bs (decimal n)) (Some n) None

-- the number that the bytes spell: no bytes but digits, no leading zero, none past 32 bits
unfoldable pub numeral : List ℕ → Option ℕ
numeral bs = spelled_by bs (digits_value 10 bs)
