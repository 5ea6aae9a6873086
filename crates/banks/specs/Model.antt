-- A bank means the list of its stores' meanings: what a call at one of them answers and leaves.
use Rattle.std.specs.Prelude.{◌≡◌, ℕ, min, cond, List, [], length, Ok, Err, Result, ◌==◌, ◌≢◌, nat_lt, slice_index_or, slice_set}
use Rattle.stores.specs.declared.fault.StoreFault.{StoreFault}
use Rattle.stores.specs.Model.{StoreModel}
use Rattle.banks.specs.declared.fault.BankFault.{BankFault}
use Rattle.banks.specs.declared.fault.BankFault.TheVariants.{NoReplica, At}

-- what stands past the last store; no call reaches it
abbrev pub no_store : StoreModel
no_store = record { board = []; commits = 0; most = 0; places = [] }

abbrev pub store_at : List StoreModel → ℕ → StoreModel
store_at ms k = slice_index_or ms k no_store

-- a store's answer as the bank gives it: its fault whole, and the replica
abbrev pub lifted : {A : Type 0} → ℕ → Result A StoreFault → Result A BankFault
lifted k (Ok x) = Ok x
lifted k (Err e) = Err (At k e)

-- what store k answers; that there is none comes first
unfoldable pub asked : {A : Type 0} → List StoreModel → ℕ → (StoreModel → Result A StoreFault) → Result A BankFault
asked ms k f = cond (nat_lt k (length ms)) (lifted k (f (store_at ms k))) (Err (NoReplica k))

-- the stores after a call at k; where there is no k, as they were
unfoldable pub changed : List StoreModel → ℕ → (StoreModel → StoreModel) → List StoreModel
changed ms k g = slice_set ms k (g (store_at ms k))

-- there are as many stores as before, and every one but k is as it was
pub record Others (k : ℕ) (before after : List StoreModel) : Type 0 where
  pub as_many : length after ≡ length before
  pub same : (i : ℕ) → (i ≢ k) → store_at after i ≡ store_at before i

-- the number of stores that a bank tells
abbrev pub told_count : List StoreModel → ℕ
told_count ms = min (length ms) 256

-- a bank of one has replica 0 alone
abbrev pub only_answer : ℕ → Result (Unit {0}) BankFault
only_answer k = cond (k == 0) (Ok tt) (Err (NoReplica k))
