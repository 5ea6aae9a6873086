-- What a copy store means.
use Rattle.std.specs.Prelude.{ℕ, List, map, replicate, None}
use Rattle.stores.specs.Model.{StoreModel}
use Rattle.stores.specs.Seated.{seats_of}
use Rattle.copy_store.specs.Places.{seat_of}
use Rattle.copy_store.specs.declared.store.CopyStore.{CopyStore}

-- the most commits that write is 65,535
abbrev pub meaning_of : CopyStore → StoreModel
meaning_of s = record { board = s.board; commits = s.commits; most = 65535; places = map seat_of (seats_of s.places) }

-- a store that is just made: these values, nothing committed, and sixteen closed places
abbrev pub made_from : List ℕ → StoreModel
made_from values = record { board = values; commits = 0; most = 65535; places = replicate 16 None }
