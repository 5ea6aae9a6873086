-- A list of one store, called at its replica or at another. Assumes nothing.
use Rattle.std.proofs.Common.{◌≡◌, ℕ, ◌<◌, Bool, true, false, cond, eqb, ltb, [], ◌∷◌, IsErrAnd, Ok, Err, Result, sym, refl, ap, ◌∙◌, arith}
use Rattle.std.proofs.lemmas.Bool.{eqb-true, eqb-false, le-ltb}
use Rattle.std.proofs.lemmas.List.{set_past}
use Rattle.std.proofs.lemmas.Result.{err_from_is_err_and}
use Rattle.stores.specs.declared.fault.StoreFault.{StoreFault}
use Rattle.stores.specs.Model.{StoreModel}
use Rattle.banks.specs.declared.fault.BankFault.{BankFault}
use Rattle.banks.specs.declared.fault.BankFault.TheVariants.{NoReplica}
use Rattle.banks.specs.Model.{store_at, lifted, asked, changed, only_answer}

abbrev Answer : Type 0
Answer = Result (Unit {0}) BankFault

zero_is : (k : ℕ) (b : Bool) → eqb k 0 ≡ b → ◌≡◌ {A = Answer} (Ok tt) (cond b (Ok tt) (Err (NoReplica k))) → k ≡ 0
zero_is k true t e = eqb-true k 0 t
zero_is k false t e = let z : ◌≡◌ {A = ℕ} 0 1 = cc in absurd (omega arith)

other_is : (k : ℕ) (f : BankFault) (b : Bool) → eqb k 0 ≡ b → ◌≡◌ {A = Answer} (Err f) (cond b (Ok tt) (Err (NoReplica k))) → (0 < k) × (f ≡ NoReplica k)
other_is k f true t e = let z : ◌≡◌ {A = ℕ} 0 1 = cc in absurd (omega arith)
other_is k f false t e = (omega (arith, eqb-false k 0 t), cc)

-- replica 0
module _ (m : StoreModel) (k : ℕ) (z : Ok tt ≡ only_answer k) where
  only_asked : {A : Type 0} (f : StoreModel → Result A StoreFault) → asked (m ∷ []) k f ≡ lifted k (f m)
  unfolding asked
  only_asked f = ap (λ (n : ℕ). cond (ltb n 1) (lifted k (f (store_at (m ∷ []) n))) (Err (NoReplica k))) (zero_is k _ refl z)

  pub only_answered : {A : Type 0} (f : StoreModel → Result A StoreFault) {r : Result A BankFault} {q : Result A StoreFault} → r ≡ lifted k q → q ≡ f m → r ≡ asked (m ∷ []) k f
  only_answered f e h = e ∙ ap (lifted k) h ∙ sym (only_asked f)

  pub only_after : {m' : StoreModel} (g : StoreModel → StoreModel) → m' ≡ g m → m' ∷ [] ≡ changed (m ∷ []) k g
  unfolding changed
  only_after g h = ap (λ x. x ∷ []) h ∙ ap (λ (n : ℕ). changed (m ∷ []) n g) (sym (zero_is k _ refl z))

-- another replica
module _ (m : StoreModel) (k : ℕ) {f : BankFault} (z : Err f ≡ only_answer k) where
  pub none_answer : {A : Type 0} (a : StoreModel → Result A StoreFault) {r : Result A BankFault} → IsErrAnd r (λ y. y ≡ f) → r ≡ asked (m ∷ []) k a
  unfolding asked
  none_answer a {r} e =
      let p = err_from_is_err_and r e in
      let o = other_is k f _ refl z in
      let b : ltb k 1 ≡ false = le-ltb k 1 (omega (arith, o.0)) in
      p.1 ∙ ap (λ y. Err y) (p.2 ∙ o.1) ∙ sym (rw b)

  pub none_after : (g : StoreModel → StoreModel) → m ∷ [] ≡ changed (m ∷ []) k g
  unfolding changed
  none_after g = let h : 0 < k = (other_is k f _ refl z).0 in sym (set_past (m ∷ []) k (g (store_at (m ∷ []) k)) (omega arith))
