-- A copy store is lawful: at most eight own writes at each place, and only of the 128 objects. Assumes nothing.
use Rattle.std.specs.Prelude.{◌≡◌, length}
use Rattle.std.proofs.Common.{◌∙◌, arith}
use Rattle.std.proofs.lemmas.List.{length-map}
use Rattle.stores.specs.Model.{Lawful}
use Rattle.stores.specs.Seated.{seats_of}
use Rattle.copy_store.specs.declared.store.CopyStore.{CopyStore}
use Rattle.copy_store.specs.Copied.{meaning_of}
use Rattle.copy_store.specs.Places.{seat_of}
use Rattle.copy_store.specs.Kept.{seats_lawful}

pub sixteen : (s : CopyStore) → length (meaning_of s).places ≡ 16
sixteen s = length-map s.places.seats seat_of ∙ s.places.sixteen

pub store_lawful : (s : CopyStore) → Lawful (meaning_of s)
store_lawful s =
    record {
      whole = s.whole;
      least_places = omega (arith, sixteen s);
      most_places = omega (arith, sixteen s);
      least_most = omega arith;
      greatest_most = omega arith;
      within = s.within;
      own = seats_lawful (seats_of s.places) s.few;
    }
