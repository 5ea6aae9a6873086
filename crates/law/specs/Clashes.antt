-- When two write sets clash: the one rule that validation, the order of application and the law go by.
use Rattle.std.specs.Prelude.{◌≡◌, ℕ, Bool, true, false, ◌||◌, ◌↔◌, [], ◌∷◌, is_some, Some, None, Option}
use Rattle.tickets.specs.WriteSets.{Pairs, lookup, shares}

-- two writes to one object, where there are two, clash
abbrev pub clash_at : Option ℕ → Option ℕ → Bool
clash_at None w = false
clash_at (Some v) w = is_some w

-- two write sets clash where their writes to some object do
abbrev pub clash : Pairs → Pairs → Bool
clash [] qs = false
clash ((i, v) ∷ ps) qs = clash_at (Some v) (lookup qs i) || clash ps qs

-- the same of write sets that are given by the value that each has for an object
abbrev pub Clashing : (ℕ → Option ℕ) → (ℕ → Option ℕ) → Type 0
Clashing u w = (j : ℕ) × (clash_at (u j) (w j) ≡ true)

-- the two forms agree
abbrev pub ClashAgrees : Type 0
ClashAgrees = (u w : Pairs) → (clash u w ≡ true) ↔ Clashing (lookup u) (lookup w)

-- what the rule is: write sets clash exactly where they share an object
abbrev pub ClashIsSharing : Type 0
ClashIsSharing = (u w : Pairs) → clash u w ≡ shares u w
