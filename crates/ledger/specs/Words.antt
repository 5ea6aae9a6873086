-- Small words on the numbers from 1 on, and on lists.
use Rattle.std.specs.Prelude.{ℕ, zero, suc, Bool, true, cond, ◌&&◌, List, [], ◌∷◌, Some, None, Option, nat_le, nat_lt}
use Rattle.std.specs.Bool.{beq}

-- n is one of 1 to m
abbrev pub up_to : ℕ → ℕ → Bool
up_to m n = nat_lt 0 n && nat_le n m

-- how many of 1 to n pass
unfoldable pub count : (ℕ → Bool) → ℕ → ℕ
count f zero = 0
count f (suc n) = cond (f (suc n)) (suc (count f n)) (count f n)

-- of 1 to n those that pass are exactly 1 to p
unfoldable pub exactly : (ℕ → Bool) → ℕ → ℕ → Bool
exactly f p zero = true
exactly f p (suc n) = beq (f (suc n)) (nat_le (suc n) p) && exactly f p n

-- of 1 to n those that pass have no holes
abbrev pub whole : (ℕ → Bool) → ℕ → Bool
whole f n = exactly f (count f n) n

-- a number, or another where it is 0
abbrev pub or_else : ℕ → ℕ → ℕ
or_else zero n = n
or_else (suc r) n = suc r

-- the lowest of 1 to n that passes; 0: none
unfoldable pub lowest : (ℕ → Bool) → ℕ → ℕ
lowest f zero = 0
lowest f (suc n) = or_else (lowest f n) (cond (f (suc n)) (suc n) 0)

-- a number from 1 on; 0: none
abbrev pub some_number : ℕ → Option ℕ
some_number zero = None
some_number (suc n) = Some (suc n)

-- how many elements of a list pass
unfoldable pub tally : {X : Type 0} → (X → Bool) → List X → ℕ
tally f [] = 0
tally f (x ∷ xs) = cond (f x) (suc (tally f xs)) (tally f xs)
