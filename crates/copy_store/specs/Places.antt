-- What a place of a copy store means.
use Rattle.std.specs.Prelude.{ℕ, cond, Some, None, Option, option_map, slice_index}
use Rattle.marks.specs.Marked.{marked}
use Rattle.stores.specs.Model as model
use Rattle.copy_store.specs.declared.place.Place.{Place}

-- a place has written the objects that are marked as written, each with the value that is kept for it
abbrev pub own_of : Place → ℕ → Option ℕ
own_of pl = λ j. cond (marked pl.wrote j) (Some (slice_index pl.own j)) None

-- what a place means
abbrev pub place_of : Place → model.Place
place_of pl = record { snapshot = pl.snapshot; own = own_of pl; overtaken = marked pl.overtaken }

-- an open place, or none
abbrev pub seat_of : Option Place → Option model.Place
seat_of = option_map place_of

-- how many objects are written at it
abbrev pub own_writes : Option Place → ℕ
own_writes (Some pl) = model.own_count (place_of pl)
own_writes None = 0
