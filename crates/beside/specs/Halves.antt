-- A call at two lists of stores put together is a call at one of them. Assumes nothing.
use Rattle.std.specs.Prelude.{◌≡◌, ℕ, ◌-◌, ◌<◌, ◌≤◌, Bool, true, false, cond, ltb, List, ◌++◌, length, get_or, Some, None, Ok, Err, Option, Result, nat_lt, slice_index_or, slice_set}
use Rattle.std.proofs.Math.Path.{refl, sym, ap}
use Rattle.std.proofs.Common.{subst, ◌∙◌, arith}
use Rattle.std.proofs.Math.Logic.{⊎_elim}
use Rattle.std.proofs.Math.ListN.{length-append}
use Rattle.std.proofs.lemmas.List.{get_or_append_left, get_or-append_right, set-append_left, set-append_right}
use Rattle.std.proofs.lemmas.Bool.{lt-ltb, le-ltb, ltb-true, cases_lt}
use Rattle.stores.specs.declared.fault.StoreFault.{StoreFault}
use Rattle.stores.specs.Model.{StoreModel, Lawful}
use Rattle.banks.specs.declared.fault.BankFault.{BankFault}
use Rattle.banks.specs.Model.{no_store, store_at, lifted, asked, changed}
use Rattle.beside.specs.Sides.{right_number, renumbered}

-- ---- on the left

left_is : (k n : ℕ) (b : Bool) → nat_lt k n ≡ b → ◌≡◌ {A = Option ℕ} None (cond b None (Some (k - n))) → k < n
left_is k n true t e = ltb-true k n t
left_is k n false t e = let z : ◌≡◌ {A = ℕ} 0 1 = cc in absurd (omega arith)

module _ (ls rs : List StoreModel) (k : ℕ) (s : None ≡ right_number (length ls) k) where
  pub left_answer : {A : Type 0} {r : Result A BankFault} (f : StoreModel → Result A StoreFault) → r ≡ asked ls k f → r ≡ asked (ls ++ rs) k f
  unfolding asked
  left_answer f e =
      let h : k < length ls = left_is k (length ls) _ refl s in
      let a : ltb k (length (ls ++ rs)) ≡ true = lt-ltb _ _ (omega (arith, length-append ls rs)) in
      let b : ltb k (length ls) ≡ true = lt-ltb _ _ h in
      e ∙ simp (a, b, get_or_append_left ls rs no_store k h)

  pub left_after : {ls' : List StoreModel} (g : StoreModel → StoreModel) → ls' ≡ changed ls k g → ls' ++ rs ≡ changed (ls ++ rs) k g
  unfolding changed
  left_after g e =
      let h : k < length ls = left_is k (length ls) _ refl s in
      ap (λ l. l ++ rs) e ∙ ap (λ m. slice_set ls k (g m) ++ rs) (sym (get_or_append_left ls rs no_store k h)) ∙ sym (set-append_left ls rs k _ h)

-- ---- on the right

right_is : (k n i : ℕ) (b : Bool) → nat_lt k n ≡ b → Some i ≡ cond b None (Some (k - n)) → (n ≤ k) × (i ≡ k - n)
right_is k n i true t e = let z : ◌≡◌ {A = ℕ} 0 1 = cc in absurd (omega arith)
right_is k n i false t e = (⊎_elim (λ lt. let z : true ≡ false = sym (lt-ltb k n lt) ∙ t in let z' : ◌≡◌ {A = ℕ} 0 1 = cc in absurd (omega arith)) (λ ge. ge) (cases_lt k n), cc)

lifted_under : {A : Type 0} (k i : ℕ) (r : Result A StoreFault) → renumbered k (lifted i r) ≡ lifted k r
lifted_under k i (Ok x) = refl
lifted_under k i (Err e) = refl

module _ (ls rs : List StoreModel) (k i : ℕ) (s : Some i ≡ right_number (length ls) k) where
  asked_right : {A : Type 0} (f : StoreModel → Result A StoreFault) → renumbered k (asked rs i f) ≡ asked (ls ++ rs) k f
  unfolding asked
  asked_right f =
      let at = right_is k (length ls) i _ refl s in
      let le : length ls ≤ k = at.0 in
      let same : get_or (ls ++ rs) k no_store ≡ get_or rs i no_store = get_or-append_right ls rs (length ls) k no_store refl le ∙ ap (λ n. get_or rs n no_store) (sym at.1) in
      ⊎_elim
      (λ lt.
      let a : ltb k (length (ls ++ rs)) ≡ true = lt-ltb _ _ (omega (arith, length-append ls rs)) in
      let b : ltb i (length rs) ≡ true = lt-ltb _ _ lt in
      simp (a, b, same) (lifted_under k i _))
      (λ ge.
      let a : ltb k (length (ls ++ rs)) ≡ false = le-ltb _ _ (omega (arith, length-append ls rs)) in
      let b : ltb i (length rs) ≡ false = le-ltb _ _ ge in
      simp (a, b))
      (cases_lt i (length rs))

  pub right_answer : {A : Type 0} {r q : Result A BankFault} (f : StoreModel → Result A StoreFault) → r ≡ renumbered k q → q ≡ asked rs i f → r ≡ asked (ls ++ rs) k f
  right_answer f e d = e ∙ ap (renumbered k) d ∙ asked_right f

  pub right_after : {rs' : List StoreModel} (g : StoreModel → StoreModel) → rs' ≡ changed rs i g → ls ++ rs' ≡ changed (ls ++ rs) k g
  unfolding changed
  right_after g e =
      let at = right_is k (length ls) i _ refl s in
      let same : get_or (ls ++ rs) k no_store ≡ get_or rs i no_store = get_or-append_right ls rs (length ls) k no_store refl at.0 ∙ ap (λ n. get_or rs n no_store) (sym at.1) in
      ap (λ l. ls ++ l) e ∙ ap (λ m. ls ++ slice_set rs i (g m)) (sym same) ∙ ap (λ n. ls ++ slice_set rs n (g (slice_index_or (ls ++ rs) k no_store))) at.1 ∙ sym (set-append_right ls rs (length ls) k _ refl at.0)

-- ---- what every bank keeps

pub both_some : (ls rs : List StoreModel) → 0 < length ls → 0 < length (ls ++ rs)
both_some ls rs h = omega (arith, length-append ls rs)

pub both_lawful : (ls rs : List StoreModel) → ((k : ℕ) → k < length ls → Lawful (store_at ls k)) → ((k : ℕ) → k < length rs → Lawful (store_at rs k))
    → (k : ℕ) → k < length (ls ++ rs) → Lawful (store_at (ls ++ rs) k)
both_lawful ls rs l r k h =
    ⊎_elim
    (λ lt. subst (λ (m : StoreModel). Lawful m) (sym (get_or_append_left ls rs no_store k lt)) (l k lt))
    (λ ge.
    let lt : k - length ls < length rs = omega (arith, length-append ls rs) in
    subst (λ (m : StoreModel). Lawful m) (sym (get_or-append_right ls rs (length ls) k no_store refl ge)) (r (k - length ls) lt))
    (cases_lt k (length ls))
