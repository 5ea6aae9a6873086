-- Steps in a row at one store: many writes, and a commit with an abort where the store is full.
use Rattle.std.specs.Prelude.{ℕ, [], ◌∷◌, Ok, Err, Result}
use Rattle.tickets.specs.WriteSets.{Pairs}
use Rattle.stores.specs.declared.fault.StoreFault.{StoreFault}
use Rattle.stores.specs.declared.fault.StoreFault.TheVariants.{NoObject, NoPlace, NinthObject, Overtaken, Full, PlaceOpen, PlaceClosed}
use Rattle.stores.specs.Model.{StoreModel, bind, leaves, write_answer, write_after, commit_answer, commit_after, abort_after}

-- each pair in turn, up to the first that is refused
abbrev pub writes_answer : StoreModel → ℕ → Pairs → Result (Unit {0}) StoreFault
writes_answer m p [] = Ok tt
writes_answer m p ((j, v) ∷ ps) = bind (write_answer m p j v) (λ _. writes_answer (write_after m p j v) p ps)

abbrev pub writes_after : StoreModel → ℕ → Pairs → StoreModel
writes_after m p [] = m
writes_after m p ((j, v) ∷ ps) = leaves (write_answer m p j v) (λ _. writes_after (write_after m p j v) p ps) m

-- a full store leaves the place open, so it is aborted
abbrev pub freed : StoreModel → ℕ → StoreFault → StoreModel
freed m p NoObject = m
freed m p NoPlace = m
freed m p NinthObject = m
freed m p Overtaken = m
freed m p Full = abort_after m p
freed m p PlaceOpen = m
freed m p PlaceClosed = m

abbrev pub ended_after : StoreModel → ℕ → Result (Unit {0}) StoreFault → StoreModel
ended_after m p (Ok u) = m
ended_after m p (Err e) = freed m p e

-- the place is freed in any case
abbrev pub settled_after : StoreModel → ℕ → StoreModel
settled_after m p = ended_after (commit_after m p) p (commit_answer m p)
