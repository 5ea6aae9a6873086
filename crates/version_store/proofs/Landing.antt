-- What a commit does to a version store: it plays its writes over the board, and overtakes their objects at every place. Assumes nothing.
use Rattle.std.proofs.Common.{◌≡◌, ℕ, suc, ◌+◌, ◌≤◌, Bool, true, false, cond, eqb, List, [], ◌∷◌, map, get_or, is_some, Some, None, Option, refl, arith}
use Rattle.stores.specs.Model.{overtaken_by, spread}
use Rattle.versions.specs.Writes.{own_of}
use Rattle.versions.specs.Histories.{newest, after_commit}
use Rattle.versions.specs.Meaning.{HistoryModel, land_after}
use Rattle.versions.proofs.Histories.{board_before, board_after, since_after}
use Rattle.version_store.specs.declared.place.Place.{Place}
use Rattle.version_store.specs.Begun.{begun_of}
use Rattle.version_store.specs.Meaning.{seat_of, store_over}

module _ (h : HistoryModel) (own : ℕ → Option ℕ) where
  next : HistoryModel
  next = record { commits = h.commits + 1; versions = after_commit h.versions (h.commits + 1) own }

  -- a place that began before the commit keeps its snapshot, and the objects of the commit are overtaken there
  seat_lands : (o : Option Place) → begun_of o ≤ h.commits → seat_of next o ≡ overtaken_by (λ j. is_some (own j)) (seat_of h o)
  unfolding next
  seat_lands None l = refl
  seat_lands (Some pl) l =
      λ i. Some (record {
        snapshot = board_before h.versions own (h.commits + 1) pl.begun (omega arith) i;
        own = own_of pl.own;
        overtaken = since_after h.versions own (h.commits + 1) pl.begun (omega arith) i;
      })

  seats_land : (ps : List (Option Place)) → ((p : ℕ) → begun_of (get_or ps p None) ≤ h.commits) → map (seat_of next) ps ≡ map (overtaken_by (λ j. is_some (own j))) (map (seat_of h) ps)
  seats_land [] l = refl
  seats_land (o ∷ ps) l = λ i. seat_lands o (l 0) i ∷ seats_land ps (λ p. l (suc p)) i

  module _ (ps : List (Option Place)) (past : (j : ℕ) → newest (h.versions j) ≤ h.commits) (begun : (p : ℕ) → begun_of (get_or ps p None) ≤ h.commits) where
    next_is : store_over next ps ≡ spread (store_over h ps) own
    unfolding next
    next_is = λ i. record { board = board_after h.versions own h.commits past i; commits = h.commits + 1; most = 256; places = seats_land ps begun i }

    lands : (b : Bool) → store_over (cond b h next) ps ≡ cond b (store_over h ps) (spread (store_over h ps) own)
    lands true = refl
    lands false = next_is

    pub store_lands : store_over (land_after h own) ps ≡ cond (eqb h.commits 256) (store_over h ps) (spread (store_over h ps) own)
    unfolding next
    store_lands = lands (eqb h.commits 256)
