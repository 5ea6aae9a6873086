-- The place that a transaction gets is free to choose, as long as it was not open.
use Rattle.std.specs.Prelude.{◌≡◌, ℕ, false, Ok}
use Rattle.stores.specs.Model.{open_answer}
use Rattle.banks.specs.Model.{store_at}
use Rattle.ledger.specs.Transactions.{nth_transaction}
use Rattle.machine.specs.Machine.{Machine}
use Rattle.machine.specs.Beginning.{beginning}

-- transaction t of the machine c is at home at k, and has a place that was not open there in the machine b
pub record PlaceWasShut (b : Machine) (k t : ℕ) (c : Machine) : Type 0 where
  pub home : (nth_transaction c.txns t).home ≡ k
  pub shut : open_answer (store_at b.stores k) (nth_transaction c.txns t).place ≡ Ok false

-- every transaction that begins
abbrev pub EveryPlace : Type 0
EveryPlace = (b : Machine) (k t : ℕ) → (beginning b k).answer ≡ Ok t → PlaceWasShut b k t (beginning b k).after
