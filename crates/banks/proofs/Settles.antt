-- Work that is settled: committed, or aborted where the store is full. Assumes nothing.
use Rattle.std.proofs.Common.{◌≡◌, ℕ, ◌<◌, List, length, Ok, Err, Result, sym, refl, ap, ◌∙◌, arith}
use Rattle.stores.specs.declared.fault.StoreFault.{StoreFault}
use Rattle.stores.specs.declared.fault.StoreFault.TheVariants.{NoObject, NoPlace, NinthObject, Overtaken, Full, PlaceOpen, PlaceClosed}
use Rattle.stores.specs.Model.{StoreModel, commit_answer, commit_after, abort_after}
use Rattle.banks.specs.declared.fault.BankFault.{BankFault}
use Rattle.banks.specs.declared.fault.BankFault.TheVariants.{NoReplica, At}
use Rattle.banks.specs.declared.work.Work.{Work}
use Rattle.banks.specs.declared.work.Unfinished.{Unfinished}
use Rattle.banks.specs.declared.work.Unfinished.TheVariants.{Ended, Back}
use Rattle.banks.specs.Works.{ended, refused, refused_by}
use Rattle.banks.specs.Steps.{freed, ended_after, settled_after}
use Rattle.banks.specs.Model.{no_store, store_at, asked, changed}
use Rattle.banks.proofs.Calls.{asked_ok, asked_err, changed_agree, changed_changed}

-- ---- what a refused commit hands back

-- the store after that, and after an abort of the work that came back
abbrev left_by : StoreModel → Unfinished → StoreModel
left_by m (Ended e) = m
left_by m (Back w e) = abort_after m w.place

abbrev pub work_of : Work → Unfinished → Work
work_of w (Ended e) = w
work_of w (Back w' e) = w'

abbrev pub fault_of : Unfinished → BankFault
fault_of (Ended e) = e
fault_of (Back w e) = e

by_fault : (w : Work) (k : ℕ) (d : StoreFault) (m : StoreModel) → (freed m w.place d ≡ left_by m (refused_by w k d)) × (work_of w (refused_by w k d) ≡ w) × (fault_of (refused_by w k d) ≡ At k d)
by_fault w k NoObject m = (refl, refl, refl)
by_fault w k NoPlace m = (refl, refl, refl)
by_fault w k NinthObject m = (refl, refl, refl)
by_fault w k Overtaken m = (refl, refl, refl)
by_fault w k Full m = (refl, refl, refl)
by_fault w k PlaceOpen m = (refl, refl, refl)
by_fault w k PlaceClosed m = (refl, refl, refl)

refused_is : (w : Work) (u : Unfinished) (r : Result (Unit {0}) BankFault) → Err u ≡ ended w r → (f : BankFault) × (Err f ≡ r) × (u ≡ refused w f)
refused_is w u (Ok x) h = let z : ◌≡◌ {A = ℕ} 0 1 = cc in absurd (omega arith)
refused_is w u (Err f) h = (f, refl, cc)

pub same_work : (w : Work) (f : BankFault) → work_of w (refused w f) ≡ w
same_work w (NoReplica k) = refl
same_work w (At k d) = (by_fault w k d no_store).1

pub same_fault : (w : Work) (f : BankFault) → fault_of (refused w f) ≡ f
same_fault w (NoReplica k) = refl
same_fault w (At k d) = (by_fault w k d no_store).2

accepted : (w : Work) (r : Result (Unit {0}) BankFault) → Ok tt ≡ ended w r → Ok tt ≡ r
accepted w (Ok u) h = refl
accepted w (Err e) h = let z : ◌≡◌ {A = ℕ} 0 1 = cc in absurd (omega arith)

-- ---- what is left

module _ (ms ms₁ : List StoreModel) (w : Work) (left : ms₁ ≡ changed ms w.replica (λ m. commit_after m w.place)) where
  abbrev answered : Result (Unit {0}) BankFault
  answered = asked ms w.replica (λ m. commit_answer m w.place)

  pub settle_ok : Ok tt ≡ ended w answered → ms₁ ≡ changed ms w.replica (λ m. settled_after m w.place)
  settle_ok h =
      let a = asked_ok ms w.replica (λ m. commit_answer m w.place) tt (accepted w answered h) in
      left ∙ changed_agree ms w.replica (λ m. commit_after m w.place) (λ m. settled_after m w.place) (λ _. ap (ended_after (commit_after (store_at ms w.replica) w.place) w.place) a.1)

  module _ (u : Unfinished) (h : Err u ≡ ended w answered) where
    given : w.replica < length ms → left_by (commit_after (store_at ms w.replica) w.place) u ≡ settled_after (store_at ms w.replica) w.place
    given l =
        let n = commit_after (store_at ms w.replica) w.place in
        let f = refused_is w u answered h in
        let d = asked_err ms w.replica (λ m. commit_answer m w.place) f.0 f.1 l in
        ap (left_by n) (f.2 ∙ ap (refused w) d.2) ∙ sym (by_fault w w.replica d.0 n).0 ∙ ap (ended_after n w.place) d.1

  pub settle_ended : (e : BankFault) → Err (Ended e) ≡ ended w answered → ms₁ ≡ changed ms w.replica (λ m. settled_after m w.place)
  settle_ended e h = left ∙ changed_agree ms w.replica (λ m. commit_after m w.place) (λ m. settled_after m w.place) (given (Ended e) h)

  pub settle_back : (w' : Work) (e : BankFault) → Err (Back w' e) ≡ ended w answered → {ms₂ : List StoreModel} → ms₂ ≡ changed ms₁ w'.replica (λ m. abort_after m w'.place)
      → ms₂ ≡ changed ms w.replica (λ m. settled_after m w.place)
  settle_back w' e h a =
      let f = refused_is w (Back w' e) answered h in
      let s : w' ≡ w = ap (work_of w) f.2 ∙ same_work w f.0 in
      a ∙ (λ i. changed (left i) (s i).replica (λ m. abort_after m w'.place))
      ∙ changed_changed ms w.replica (λ m. commit_after m w.place) (λ m. abort_after m w'.place)
      ∙ changed_agree ms w.replica (λ m. abort_after (commit_after m w.place) w'.place) (λ m. settled_after m w.place) (given (Back w' e) h)
