-- A store as a bank of one: what replica 0 answers and leaves is what the store does. Assumes nothing.
use Rattle.std.proofs.Common.{◌≡◌, ℕ, [], ◌∷◌, Ok, Err, Result, sym, refl, ap, ◌∙◌, arith}
use Rattle.stores.specs.declared.fault.StoreFault.{StoreFault}
use Rattle.stores.specs.Model.{StoreModel, begin_answer}
use Rattle.banks.specs.declared.fault.BankFault.{BankFault}
use Rattle.banks.specs.declared.fault.BankFault.TheVariants.{At}
use Rattle.banks.specs.declared.work.Work.{Work}
use Rattle.banks.specs.Model.{lifted, asked, changed}
use Rattle.banks.specs.Works.{begun}
use Rattle.clients.specs.declared.race.Order.{Order}
use Rattle.clients.specs.declared.race.Order.TheVariants.{LeftFirst, RightFirst}
use Rattle.clients.specs.Races.{first_of, second_of}

pub same_answer : {A : Type 0} (r q : Result A StoreFault) → lifted 0 r ≡ lifted 0 q → r ≡ q
same_answer (Ok x) (Ok y) e = cc
same_answer (Ok x) (Err f) e = let z : ◌≡◌ {A = ℕ} 0 1 = cc in absurd (omega arith)
same_answer (Err d) (Ok y) e = let z : ◌≡◌ {A = ℕ} 0 1 = cc in absurd (omega arith)
same_answer (Err d) (Err f) e = cc

module _ (m : StoreModel) where
  at_0 : {A : Type 0} (f : StoreModel → Result A StoreFault) → asked (m ∷ []) 0 f ≡ lifted 0 (f m)
  unfolding asked
  at_0 f = refl

  pub answered : {A : Type 0} (f : StoreModel → Result A StoreFault) (k : ℕ) → k ≡ 0 → {b : Result A BankFault} → b ≡ asked (m ∷ []) k f → b ≡ lifted 0 (f m)
  answered f k z e = e ∙ ap (λ n. asked (m ∷ []) n f) z ∙ at_0 f

  left_at_0 : {m' : StoreModel} (g : StoreModel → StoreModel) → m' ∷ [] ≡ changed (m ∷ []) 0 g → m' ≡ g m
  unfolding changed
  left_at_0 g e = cc

  pub left : {m' : StoreModel} (g : StoreModel → StoreModel) (k : ℕ) → k ≡ 0 → m' ∷ [] ≡ changed (m ∷ []) k g → m' ≡ g m
  left g k z e = left_at_0 g (e ∙ ap (λ n. changed (m ∷ []) n g) z)

-- ---- work that was begun there

abbrev pub begun_there : ℕ → Result (Unit {0}) StoreFault → Result Work StoreFault
begun_there p (Ok u) = Ok (record { replica = 0; place = p })
begun_there p (Err e) = Err e

pub begun_is : (p : ℕ) (w : Work) (r : Result (Unit {0}) StoreFault) → Ok w ≡ begun_there p r → (r ≡ Ok tt) × (w.place ≡ p) × (w.replica ≡ 0)
begun_is p w (Ok u) e = let f : w ≡ record { replica = 0; place = p } = cc in (refl, ap (λ (x : Work). x.place) f, ap (λ (x : Work). x.replica) f)
begun_is p w (Err d) e = let z : ◌≡◌ {A = ℕ} 0 1 = cc in absurd (omega arith)

pub begun_err : (p : ℕ) (e : StoreFault) (r : Result (Unit {0}) StoreFault) → Err e ≡ begun_there p r → r ≡ Err e
begun_err p e (Ok u) h = let z : ◌≡◌ {A = ℕ} 0 1 = cc in absurd (omega arith)
begun_err p e (Err d) h = cc

lifted_begun : (p : ℕ) (r : Result (Unit {0}) StoreFault) → begun 0 p (lifted 0 r) ≡ lifted 0 (begun_there p r)
lifted_begun p (Ok u) = refl
lifted_begun p (Err e) = refl

pub opened : (m : StoreModel) (p : ℕ) {b : Result Work BankFault} → b ≡ begun 0 p (asked (m ∷ []) 0 (λ n. begin_answer n p)) → b ≡ lifted 0 (begun_there p (begin_answer m p))
opened m p e = e ∙ ap (begun 0 p) (answered m (λ n. begin_answer n p) 0 refl refl) ∙ lifted_begun p (begin_answer m p)

pub opened_ok : (m : StoreModel) (p : ℕ) (w : Work) {b : Result Work BankFault} → b ≡ Ok w → b ≡ begun 0 p (asked (m ∷ []) 0 (λ n. begin_answer n p)) → Ok w ≡ begun_there p (begin_answer m p)
opened_ok m p w e h = same_answer (Ok w) (begun_there p (begin_answer m p)) (sym e ∙ opened m p h)

pub opened_err : (m : StoreModel) (p : ℕ) (f : StoreFault) {b : Result Work BankFault} → b ≡ Err (At 0 f) → b ≡ begun 0 p (asked (m ∷ []) 0 (λ n. begin_answer n p)) → Err f ≡ begun_there p (begin_answer m p)
opened_err m p f e h = same_answer (Err f) (begun_there p (begin_answer m p)) (sym e ∙ opened m p h)

-- two works, in an order
pub first_is : (o : Order) (a b w : Work) → (a.replica ≡ 0) × (b.replica ≡ 0) → w ≡ first_of o a b → (w.replica ≡ 0) × (w.place ≡ first_of o a.place b.place)
first_is LeftFirst a b w z e = (ap (λ (x : Work). x.replica) e ∙ z.0, ap (λ (x : Work). x.place) e)
first_is RightFirst a b w z e = (ap (λ (x : Work). x.replica) e ∙ z.1, ap (λ (x : Work). x.place) e)

pub second_is : (o : Order) (a b w : Work) → (a.replica ≡ 0) × (b.replica ≡ 0) → w ≡ second_of o a b → (w.replica ≡ 0) × (w.place ≡ second_of o a.place b.place)
second_is LeftFirst a b w z e = (ap (λ (x : Work). x.replica) e ∙ z.1, ap (λ (x : Work). x.place) e)
second_is RightFirst a b w z e = (ap (λ (x : Work). x.replica) e ∙ z.0, ap (λ (x : Work). x.place) e)
