-- The steps of looking the copies over, replica by replica.
use Rattle.std.proofs.Common.{◌≡◌, ℕ, ◌+◌, ◌<◌, ◌≤◌, List, length, drop, Ok, Err, Result, sym, ap, ◌∙◌, add-one}
use Rattle.std.proofs.lemmas.List.{drop_more, drop_all}
use Rattle.tickets.specs.Boards.{Board}
use Rattle.stores.specs.Model.{StoreModel}
use Rattle.banks.specs.Model.{no_store, store_at}
use Rattle.machine.specs.declared.reason.Reason.{Reason}
use Rattle.machine.specs.Machine.{bind}
use Rattle.machine.specs.Opening.{copy_fits, copies_fit}

module _ (start : Board) (ms : List StoreModel) (k : ℕ) (h : k < length ms) (r : Result (Unit {0}) Reason) (answer : r ≡ copy_fits start k (store_at ms k)) where
  turn : copies_fit start k (drop k ms) ≡ bind r (λ _. copies_fit start (k + 1) (drop (k + 1) ms))
  unfolding copies_fit
  turn =
      ap (copies_fit start k) (drop_more ms k no_store h)
      ∙ (λ i. bind (sym answer i) (λ _. copies_fit start (sym (add-one k) i) (drop (k + 1) ms)))

  pub fits_more : (u : Unit {0}) → r ≡ Ok u → copies_fit start k (drop k ms) ≡ copies_fit start (k + 1) (drop (k + 1) ms)
  fits_more u e = turn ∙ ap (λ q. bind q (λ _. copies_fit start (k + 1) (drop (k + 1) ms))) e

  pub fits_not : (d : Reason) → r ≡ Err d → copies_fit start k (drop k ms) ≡ Err d
  fits_not d e = turn ∙ ap (λ q. bind q (λ _. copies_fit start (k + 1) (drop (k + 1) ms))) e

pub fits_all : (start : Board) (ms : List StoreModel) (k : ℕ) → length ms ≤ k → copies_fit start k (drop k ms) ≡ Ok tt
unfolding copies_fit
fits_all start ms k h = ap (copies_fit start k) (drop_all k ms h)
