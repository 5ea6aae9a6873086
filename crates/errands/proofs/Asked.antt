-- A question to a store through the bank, with an answer of its own where there is none.
use Rattle.std.proofs.Common.{◌≡◌, ℕ, ◌<◌, ◌≤◌, Bool, true, false, cond, ltb, List, length, Ok, Err, Result, sym, refl, ap, ◌∙◌, inl, inr, arith}
use Rattle.std.specs.Result.{result_unwrap_or}
use Rattle.std.proofs.lemmas.List.{get_or_past}
use Rattle.std.proofs.lemmas.Bool.{cases_lt, ltb-true, ltb-false}
use Rattle.stores.specs.declared.fault.StoreFault.{StoreFault}
use Rattle.stores.specs.Model.{StoreModel, Lawful}
use Rattle.banks.specs.declared.fault.BankFault.TheVariants.{NoReplica}
use Rattle.banks.specs.Model.{no_store, store_at, lifted, asked}

lifted_or : {A : Type 0} (k : ℕ) (r : Result A StoreFault) (d : A) → result_unwrap_or (lifted k r) d ≡ result_unwrap_or r d
lifted_or k (Ok x) d = refl
lifted_or k (Err e) d = refl

-- what is asked of a store by `f`, else `d`, is `h` of the store, where that is so of the store that is there and `d` is so of none
pub asked_or : {A : Type 0} (ms : List StoreModel) (k : ℕ) (f : StoreModel → Result A StoreFault) (d : A) (h : StoreModel → A) → (k < length ms → result_unwrap_or (f (store_at ms k)) d ≡ h (store_at ms k)) → d ≡ h no_store → result_unwrap_or (asked ms k f) d ≡ h (store_at ms k)
unfolding asked
asked_or ms k f d h there none = by (ltb k (length ms)) refl
  where
    by : (b : Bool) → ltb k (length ms) ≡ b → result_unwrap_or (cond b (lifted k (f (store_at ms k))) (Err (NoReplica k))) d ≡ h (store_at ms k)
    by true e = lifted_or k (f (store_at ms k)) d ∙ there (ltb-true k (length ms) e)
    by false e = none ∙ ap h (sym (get_or_past ms k no_store (ltb-false k (length ms) e)))

-- a store has at most 64 places, and where there is no store there are none
pub most_places : (ms : List StoreModel) → ((k : ℕ) → k < length ms → Lawful (store_at ms k)) → (k : ℕ) → length (store_at ms k).places ≤ 64
most_places ms lawful k = elim (cases_lt k (length ms)) [
  | inl h ↦ (lawful k h).most_places
  | inr h ↦ let none = ap (λ (m : StoreModel). length m.places) (get_or_past ms k no_store h) in omega arith
]
