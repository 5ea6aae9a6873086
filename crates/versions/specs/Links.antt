-- Chains of versions in a pool, which is given newest first: a version's index is the number of those behind it.
use Rattle.std.specs.Prelude.{ℕ, ◌+◌, Bool, true, cond, ◌&&◌, List, [], ◌∷◌, length, Some, None, Option, ◌==◌, nat_lt}
use Rattle.versions.specs.declared.version.Version.{Version}
use Rattle.versions.specs.Histories.{Dated, first}

-- a link leads to an index below n, or nowhere
abbrev pub before : Option ℕ → ℕ → Bool
before None n = true
before (Some i) n = nat_lt i n

-- every link of the pool leads to a version behind it
unfoldable pub falling : List Version → Bool
falling [] = true
falling (v ∷ pool) = before v.older (length pool) && falling pool

-- a version without its link
abbrev pub dated : Version → Dated
dated v = record { commit = v.commit; value = v.value }

-- the versions of the pool that a link leads to, newest first
unfoldable pub linked : List Version → Option ℕ → List Version
linked [] link = []
linked (v ∷ pool) None = []
linked (v ∷ pool) (Some i) = cond (i == length pool) (v ∷ linked pool v.older) (linked pool (Some i))

-- the versions that a link leads to, newest first; the last is x, the value at the start
unfoldable pub chain : ℕ → List Version → Option ℕ → List Dated
chain x [] link = first x
chain x (v ∷ pool) None = first x
chain x (v ∷ pool) (Some i) = cond (i == length pool) (dated v ∷ chain x pool v.older) (chain x pool (Some i))

-- how far a link still leads
abbrev pub height : Option ℕ → ℕ
height None = 0
height (Some i) = i + 1
