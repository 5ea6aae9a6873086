-- A store's meaning as the law has it: the own writes of a place are the list of their pairs.
use Rattle.std.specs.Prelude.{ℕ, List, map, Some, None, Option}
use Rattle.tickets.specs.WriteSets.{Pairs}
use Rattle.stores.specs.Model as model
use Rattle.stores.specs.Model.{StoreModel}
use Rattle.errands.specs.Own.{pairs_from}
use Rattle.law.specs.Store.{Place, Store}

-- own writes, in rising order of their objects
abbrev pub all_pairs : (ℕ → Option ℕ) → Pairs
all_pairs own = pairs_from own 0 128

-- a place, open or not
abbrev pub law_place : Option model.Place → Option Place
law_place None = None
law_place (Some x) = Some (record { snapshot = x.snapshot; own = all_pairs x.own; overtaken = x.overtaken })

-- the same board, commits and most
abbrev pub law_store : StoreModel → Store
law_store m = record { board = m.board; commits = m.commits; most = m.most; places = map law_place m.places }

-- the stores of a bank, by replica
abbrev pub law_bank : List StoreModel → List Store
law_bank ms = map law_store ms
