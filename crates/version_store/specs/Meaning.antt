-- What a version store means.
use Rattle.std.specs.Prelude.{List, map, Option, option_map}
use Rattle.stores.specs.Model as model
use Rattle.stores.specs.Model.{StoreModel}
use Rattle.stores.specs.Seated.{seats_of}
use Rattle.versions.specs.Writes.{own_of}
use Rattle.versions.specs.Histories.{board_at, written_since}
use Rattle.versions.specs.Meaning.{HistoryModel, history_of}
use Rattle.version_store.specs.declared.place.Place.{Place}
use Rattle.version_store.specs.declared.store.VersionStore.{VersionStore}

-- a place's snapshot is the board after the commit of its begin, and what commits since then wrote is overtaken
abbrev pub place_of : HistoryModel → Place → model.Place
place_of h pl = record { snapshot = board_at h.versions pl.begun; own = own_of pl.own; overtaken = written_since h.versions pl.begun }

-- a closed place means nothing
abbrev pub seat_of : HistoryModel → Option Place → Option model.Place
seat_of h = option_map (place_of h)

-- the board after the last commit, with these places over it
abbrev pub store_over : HistoryModel → List (Option Place) → StoreModel
store_over h places = record { board = board_at h.versions h.commits; commits = h.commits; most = 256; places = map (seat_of h) places }

-- a store means its history with its places over it
abbrev pub meaning_of : VersionStore → StoreModel
meaning_of s = store_over (history_of s.history) (seats_of s.places)
