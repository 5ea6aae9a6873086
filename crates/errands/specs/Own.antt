-- The own writes of a place, as a write set.
use Rattle.std.specs.Prelude.{ℕ, zero, suc, ◌+◌, [], ◌∷◌, Some, None, Ok, Err, Option, Result}
use Rattle.stores.specs.declared.fault.StoreFault.{StoreFault}
use Rattle.stores.specs.Model.{StoreModel, Place, bind, place_at}
use Rattle.tickets.specs.WriteSets.{Pairs}
use Rattle.tickets.specs.Meaning.{set_pairs}
use Rattle.tickets.specs.declared.write_set.WriteSet.{WriteSet}

abbrev pub told_pair : ℕ → Option ℕ → Pairs → Pairs
told_pair j (Some v) rest = (j, v) ∷ rest
told_pair j None rest = rest

-- the own writes to the n objects from j on
unfoldable pub pairs_from : (ℕ → Option ℕ) → ℕ → ℕ → Pairs
pairs_from own j zero = []
pairs_from own j (suc n) = told_pair j (own j) (pairs_from own (j + 1) n)

-- pairs, where there are any
abbrev pub some_pairs : Pairs → Option Pairs
some_pairs [] = None
some_pairs (p ∷ ps) = Some (p ∷ ps)

abbrev pub pairs_in : Option Pairs → Pairs
pairs_in None = []
pairs_in (Some ps) = ps

-- the write set of a place; none where it has no own writes
abbrev pub own_set : Place → Option Pairs
own_set pl = some_pairs (pairs_from pl.own 0 128)

abbrev pub own_answer : StoreModel → ℕ → Result (Option Pairs) StoreFault
own_answer m p = bind (place_at m p) (λ pl. Ok (own_set pl))

-- what was gathered, by its pairs
abbrev pub gathered : {E : Type 0} → Result (Option WriteSet) E → Result (Option Pairs) E
gathered (Ok o) = Ok (set_pairs o)
gathered (Err e) = Err e
