-- What is read at a place of a version store: its own write, else what the history had at its begin. Assumes nothing.
use Rattle.std.proofs.Common.{◌≡◌, ℕ, Bool, true, false, cond, ltb, get_or, Some, None, Ok, Err, Option, sym, refl, ap, ◌∙◌}
use Rattle.std.specs.Prelude.{MatchOption}
use Rattle.std.specs.Option.{ok_or}
use Rattle.std.proofs.lemmas.Bool.{lt-ltb}
use Rattle.stores.specs.declared.fault.StoreFault.TheVariants.{NoObject}
use Rattle.stores.specs.Model.{or_else, read_at}
use Rattle.versions.specs.Writes.{own_of}
use Rattle.versions.specs.Histories.{board_at}
use Rattle.versions.specs.Meaning.{HistoryModel, value_in}
use Rattle.versions.proofs.Held.{held_below}
use Rattle.version_store.specs.declared.place.Place.{Place}
use Rattle.version_store.specs.Meaning.{place_of}

module _ (h : HistoryModel) (pl : Place) (j : ℕ) (w : Option ℕ) where
  read_by : (o : Option ℕ) → own_of pl.own j ≡ o → MatchOption o (w ≡ value_in h pl.begun j) (λ v. w ≡ Some v) → ok_or w NoObject ≡ read_at j (place_of h pl)
  read_by (Some v) own told =
      let l : ltb j 128 ≡ true = lt-ltb j 128 (held_below pl.own j v own) in
      rw (told, l, own)
  read_by None own told = ap (λ r. ok_or r NoObject) told ∙ by_object (ltb j 128)
    where
      by_object : (b : Bool) → ok_or (cond b (Some (get_or (board_at h.versions pl.begun) j 0)) None) NoObject ≡ cond b (Ok (or_else (own_of pl.own j) (get_or (board_at h.versions pl.begun) j 0))) (Err NoObject)
      by_object true = ap (λ o. Ok (or_else o (get_or (board_at h.versions pl.begun) j 0))) (sym own)
      by_object false = refl

  pub read_back : (o : Option ℕ) → o ≡ own_of pl.own j → MatchOption o (w ≡ value_in h pl.begun j) (λ v. w ≡ Some v) → ok_or w NoObject ≡ read_at j (place_of h pl)
  read_back o own told = read_by o (sym own) told
