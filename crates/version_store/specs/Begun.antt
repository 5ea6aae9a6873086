-- When a place began.
use Rattle.std.specs.Prelude.{ℕ, Some, None, Option}
use Rattle.version_store.specs.declared.place.Place.{Place}

-- the count of commits at the begin; 0 where the place is closed
abbrev pub begun_of : Option Place → ℕ
begun_of None = 0
begun_of (Some pl) = pl.begun
