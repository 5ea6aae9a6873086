-- A bank as the law has it: the store of a replica, one store changed, and what every store keeps.
use Rattle.std.proofs.Common.{◌≡◌, ℕ, ◌<◌, ◌⊎◌, List, length, get_or, set, Result, inl, inr, arith, length-set}
use lib.ListN.{length-map, get_or-map}
use Rattle.std.proofs.lemmas.List.{map-set, get_or-set_same, get_or-set_other}
use Rattle.std.proofs.lemmas.Bool.{cases_eq, lt-ltb}
use Rattle.stores.specs.declared.fault.StoreFault.{StoreFault}
use Rattle.stores.specs.Model.{StoreModel, Lawful}
use Rattle.banks.specs.Model as banks
use Rattle.banks.specs.Model.{no_store, asked, changed, lifted}
use Rattle.law.specs.Opening.{store_at}
use Rattle.refinement.specs.Stores.{law_store, law_bank}
use Rattle.refinement.specs.Sound.{LawfulStores}

module _ (ms : List StoreModel) where
  pub as_many_stores : length (law_bank ms) ≡ length ms
  as_many_stores = length-map ms law_store

  pub store_is : (k : ℕ) → store_at (law_bank ms) k ≡ law_store (banks.store_at ms k)
  store_is k = get_or-map law_store ms k no_store

  pub asked_is : {A : Type 0} (k : ℕ) (f : StoreModel → Result A StoreFault) → k < length ms → asked ms k f ≡ lifted k (f (banks.store_at ms k))
  unfolding asked
  asked_is k f l = rw (lt-ltb k (length ms) l)

  pub bank_changed : (k : ℕ) (g : StoreModel → StoreModel) → law_bank (changed ms k g) ≡ set (law_bank ms) k (law_store (g (banks.store_at ms k)))
  unfolding changed
  bank_changed k g = map-set law_store ms k (g (banks.store_at ms k))

  pub as_many_changed : (k : ℕ) (g : StoreModel → StoreModel) → length (changed ms k g) ≡ length ms
  unfolding changed
  as_many_changed k g = length-set ms k (g (banks.store_at ms k))

  pub changed_at : (k : ℕ) (g : StoreModel → StoreModel) → k < length ms → banks.store_at (changed ms k g) k ≡ g (banks.store_at ms k)
  unfolding changed
  changed_at k g l = get_or-set_same ms k (g (banks.store_at ms k)) no_store l

  pub lawful_changed : LawfulStores ms → (k : ℕ) (g : StoreModel → StoreModel) → ((m : StoreModel) → Lawful m → Lawful (g m)) → LawfulStores (changed ms k g)
  unfolding changed
  lawful_changed ok k g keeps i l = go (cases_eq i k)
    where
      m : i < length ms
      m = omega (arith, length-set ms k (g (banks.store_at ms k)))

      go : (i ≡ k) ⊎ (i ≡ k → ⊥) → Lawful (get_or (set ms k (g (banks.store_at ms k))) i no_store)
      go (inl e) = let h : k < length ms = omega (arith, m) in rw (e, get_or-set_same ms k (g (banks.store_at ms k)) no_store h) (keeps (banks.store_at ms k) (ok k h))
      go (inr e) = rw (get_or-set_other ms k i (g (banks.store_at ms k)) no_store e) (ok i m)
