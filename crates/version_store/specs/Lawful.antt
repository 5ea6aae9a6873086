-- A version store is lawful. Assumes nothing.
use Rattle.std.specs.Prelude.{◌≡◌, ℕ, length, Some, None, Option, slice_index_or}
use Rattle.std.proofs.Common.{sym, subst, ◌∙◌, ⊎_elim, arith}
use Rattle.std.proofs.lemmas.List.{length-map, get_or-map, get_or_past}
use Rattle.std.proofs.lemmas.Bool.{cases_lt}
use Rattle.stores.specs.Model.{Lawful, OwnLawful}
use Rattle.versions.specs.Meaning.{HistoryModel, history_of}
use Rattle.versions.proofs.Histories.{length-board_at}
use Rattle.versions.proofs.Held.{held_few, held_past}
use Rattle.version_store.specs.declared.place.Place.{Place}
use Rattle.version_store.specs.declared.store.VersionStore.{VersionStore}
use Rattle.version_store.specs.Meaning.{meaning_of, seat_of}

pub seat_lawful : (h : HistoryModel) (o : Option Place) → OwnLawful (seat_of h o)
seat_lawful h None = tt
seat_lawful h (Some pl) = (held_few pl.own, held_past pl.own)

pub sixteen : (s : VersionStore) → length (meaning_of s).places ≡ 16
sixteen s = length-map s.places.seats (seat_of (history_of s.history)) ∙ s.places.sixteen

pub each_lawful : (s : VersionStore) (p : ℕ) → OwnLawful (slice_index_or (meaning_of s).places p None)
each_lawful s p =
    let h = history_of s.history in
    ⊎_elim
    (λ l. subst OwnLawful (sym (get_or-map (seat_of h) s.places.seats p None None (omega (arith, s.places.sixteen)))) (seat_lawful h (slice_index_or s.places.seats p None)))
    (λ l. subst OwnLawful (sym (get_or_past (meaning_of s).places p None (omega (arith, sixteen s)))) tt)
    (cases_lt p 16)

pub store_lawful : (s : VersionStore) → Lawful (meaning_of s)
store_lawful s =
    record {
      whole = length-board_at (history_of s.history).versions s.history.commits;
      least_places = omega (arith, sixteen s);
      most_places = omega (arith, sixteen s);
      least_most = omega arith;
      greatest_most = omega arith;
      within = s.history.few;
      own = each_lawful s;
    }
