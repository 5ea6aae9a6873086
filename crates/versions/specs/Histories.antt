-- The versions of each object, newest first, and what they say of the board after a commit. Every object has one.
use Rattle.std.specs.Prelude.{ℕ, Bool, cond, List, [], ◌∷◌, map, Some, None, Option, ◌==◌, nat_le, nat_lt, slice_index}
use Rattle.std.specs.List.{range_with_len}

-- a value and the count of the commit that it came from
pub record Dated : Type 0 where
  pub commit : ℕ
  pub value : ℕ

-- the value of the newest version
abbrev pub current : List Dated → ℕ
current [] = 0
current (v ∷ older) = v.value

-- the commit of the newest version
abbrev pub newest : List Dated → ℕ
newest [] = 0
newest (v ∷ older) = v.commit

-- the value of the newest version that came from commit c or from one before it
unfoldable pub seen : List Dated → ℕ → ℕ
seen [] c = 0
seen (v ∷ older) c = cond (nat_le v.commit c) v.value (seen older c)

-- the board after commit c
unfoldable pub board_at : (ℕ → List Dated) → ℕ → List ℕ
board_at versions c = map (λ j. seen (versions j) c) (range_with_len 0 128)

-- whether a commit after commit c wrote object j
abbrev pub written_since : (ℕ → List Dated) → ℕ → ℕ → Bool
written_since versions c = λ j. nat_lt c (newest (versions j))

-- the one version that an object has before the first commit: its value at the start
abbrev pub first : ℕ → List Dated
first x = record { commit = 0; value = x } ∷ []

-- the versions of a board that no commit has written
abbrev pub started : List ℕ → ℕ → List Dated
started start = λ j. first (slice_index start j)

-- the versions with one more of object j
abbrev pub with_version : (ℕ → List Dated) → ℕ → ℕ → ℕ → ℕ → List Dated
with_version versions j c v = λ k. cond (k == j) (record { commit = c; value = v } ∷ versions k) (versions k)

-- the versions of an object after commit c, which wrote v or nothing to it
abbrev pub newer : ℕ → Option ℕ → List Dated → List Dated
newer c (Some v) older = record { commit = c; value = v } ∷ older
newer c None older = older

-- the versions of all objects after commit c, which made these writes
abbrev pub after_commit : (ℕ → List Dated) → ℕ → (ℕ → Option ℕ) → ℕ → List Dated
after_commit versions c own = λ j. newer c (own j) (versions j)
