-- Calls at one store of a list, one after the other. Assumes nothing.
use Rattle.std.proofs.Common.{◌≡◌, ℕ, ◌<◌, ◌≤◌, Bool, true, false, cond, ltb, List, length, get_or, set, Ok, Err, Result, sym, refl, ap, ◌∙◌, ⊎_elim, arith}
use Rattle.std.proofs.lemmas.List.{length-set, get_or-set_same, set-set, set-get_or, set_past}
use Rattle.std.proofs.lemmas.Bool.{lt-ltb, le-ltb, ltb-true, cases_lt}
use Rattle.stores.specs.declared.fault.StoreFault.{StoreFault}
use Rattle.stores.specs.Model.{StoreModel}
use Rattle.banks.specs.declared.fault.BankFault.{BankFault}
use Rattle.banks.specs.declared.fault.BankFault.TheVariants.{NoReplica, At}
use Rattle.banks.specs.Model.{no_store, store_at, lifted, asked, changed}

-- what was accepted, or refused by the store
ok_parts : {A : Type 0} (b : Bool) (k : ℕ) (x : A) (r : Result A StoreFault) → Ok x ≡ cond b (lifted k r) (Err (NoReplica k)) → (b ≡ true) × (Ok x ≡ r)
ok_parts true k x (Ok y) e = (refl, cc)
ok_parts true k x (Err d) e = let z : ◌≡◌ {A = ℕ} 0 1 = cc in absurd (omega arith)
ok_parts false k x r e = let z : ◌≡◌ {A = ℕ} 0 1 = cc in absurd (omega arith)

err_part : {A : Type 0} (k : ℕ) (f : BankFault) (r : Result A StoreFault) → Err f ≡ lifted k r → (d : StoreFault) × (Err d ≡ r) × (f ≡ At k d)
err_part k f (Ok y) e = let z : ◌≡◌ {A = ℕ} 0 1 = cc in absurd (omega arith)
err_part k f (Err d) e = (d, refl, cc)

module _ (ms : List StoreModel) (k : ℕ) where
  pub asked_at : {A : Type 0} (f : StoreModel → Result A StoreFault) → k < length ms → asked ms k f ≡ lifted k (f (store_at ms k))
  unfolding asked
  asked_at f h = let t : ltb k (length ms) ≡ true = lt-ltb k (length ms) h in rw t

  pub asked_past : {A : Type 0} (f : StoreModel → Result A StoreFault) → length ms ≤ k → asked ms k f ≡ Err (NoReplica k)
  unfolding asked
  asked_past f h = let t : ltb k (length ms) ≡ false = le-ltb k (length ms) h in rw t

  pub asked_ok : {A : Type 0} (f : StoreModel → Result A StoreFault) (x : A) → Ok x ≡ asked ms k f → (k < length ms) × (Ok x ≡ f (store_at ms k))
  unfolding asked
  asked_ok f x e = let p = ok_parts (ltb k (length ms)) k x (f (store_at ms k)) e in (ltb-true k (length ms) p.0, p.1)

  pub asked_err : {A : Type 0} (f : StoreModel → Result A StoreFault) (e : BankFault) → Err e ≡ asked ms k f → k < length ms → (d : StoreFault) × (Err d ≡ f (store_at ms k)) × (e ≡ At k d)
  asked_err f e h l = err_part k e (f (store_at ms k)) (h ∙ asked_at f l)

  -- calls that agree at the store that is there
  pub asked_agree : {A : Type 0} (f g : StoreModel → Result A StoreFault) → (k < length ms → f (store_at ms k) ≡ g (store_at ms k)) → asked ms k f ≡ asked ms k g
  unfolding asked
  asked_agree f g h =
      ⊎_elim (λ l. asked_at f l ∙ ap (lifted k) (h l) ∙ sym (asked_at g l))
      (λ l. let t : ltb k (length ms) ≡ false = le-ltb k (length ms) l in rw t)
      (cases_lt k (length ms))

  pub changed_agree : (f g : StoreModel → StoreModel) → (k < length ms → f (store_at ms k) ≡ g (store_at ms k)) → changed ms k f ≡ changed ms k g
  unfolding changed
  changed_agree f g h = ⊎_elim (λ l. ap (set ms k) (h l)) (λ l. set_past ms k (f (store_at ms k)) l ∙ sym (set_past ms k (g (store_at ms k)) l)) (cases_lt k (length ms))

  pub changed_same : (f : StoreModel → StoreModel) → (k < length ms → f (store_at ms k) ≡ store_at ms k) → changed ms k f ≡ ms
  unfolding changed
  changed_same f h = ⊎_elim (λ l. ap (set ms k) (h l) ∙ set-get_or ms k no_store) (λ l. set_past ms k (f (store_at ms k)) l) (cases_lt k (length ms))

  pub changed_at : (f : StoreModel → StoreModel) → k < length ms → store_at (changed ms k f) k ≡ f (store_at ms k)
  unfolding changed
  changed_at f l = get_or-set_same ms k (f (store_at ms k)) no_store l

  -- one call after another
  pub asked_changed : {A : Type 0} (g : StoreModel → StoreModel) (f : StoreModel → Result A StoreFault) → asked (changed ms k g) k f ≡ asked ms k (λ m. f (g m))
  unfolding asked changed
  asked_changed g f =
      ⊎_elim
      (λ l.
      let t : ltb k (length ms) ≡ true = lt-ltb k (length ms) l in
      let u : ltb k (length (set ms k (g (store_at ms k)))) ≡ true = lt-ltb k _ (omega (arith, length-set ms k (g (store_at ms k)))) in
      let s : get_or (set ms k (g (store_at ms k))) k no_store ≡ g (store_at ms k) = get_or-set_same ms k (g (store_at ms k)) no_store l in
      rw (t, u, s))
      (λ l.
      let t : ltb k (length ms) ≡ false = le-ltb k (length ms) l in
      let u : ltb k (length (set ms k (g (store_at ms k)))) ≡ false = le-ltb k _ (omega (arith, length-set ms k (g (store_at ms k)))) in
      rw (t, u))
      (cases_lt k (length ms))

  pub changed_changed : (f g : StoreModel → StoreModel) → changed (changed ms k f) k g ≡ changed ms k (λ m. g (f m))
  unfolding changed
  changed_changed f g =
      ⊎_elim
      (λ l. set-set ms k (f (store_at ms k)) (g (store_at (changed ms k f) k)) ∙ ap (λ m. set ms k (g m)) (changed_at f l))
      (λ l.
      let s = length-set ms k (f (store_at ms k)) in
      set_past (set ms k (f (store_at ms k))) k _ (omega arith) ∙ set_past ms k (f (store_at ms k)) l ∙ sym (set_past ms k (g (f (store_at ms k))) l))
      (cases_lt k (length ms))
