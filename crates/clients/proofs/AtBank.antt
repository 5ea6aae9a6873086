-- The steps of a client at one store of a bank: each comes to what it comes to at that store. Assumes nothing.
use Rattle.std.proofs.Common.{◌≡◌, ℕ, ◌<◌, List, length, Ok, Err, Result, sym, refl, ap, ◌∙◌, ⊎_elim, arith}
use Rattle.std.proofs.lemmas.Bool.{cases_lt}
use Rattle.tickets.specs.WriteSets.{Pairs}
use Rattle.stores.specs.declared.fault.StoreFault.{StoreFault}
use Rattle.stores.specs.Model.{StoreModel, begin_answer, begin_after, bind, leaves}
use Rattle.banks.specs.declared.fault.BankFault.{BankFault}
use Rattle.banks.specs.declared.fault.BankFault.TheVariants.{NoReplica, At}
use Rattle.banks.specs.declared.work.Work.{Work}
use Rattle.banks.specs.Works.{begun}
use Rattle.banks.specs.Model.{store_at, lifted, asked, changed}
use Rattle.banks.proofs.Calls.{asked_at, asked_past, asked_ok, asked_err, changed_agree, asked_changed, changed_changed}
use Rattle.clients.specs.Committed.{opened_after}
use Rattle.banks.specs.Steps.{writes_answer, writes_after}
use Rattle.clients.proofs.Pairs.{Fit}
use Rattle.clients.proofs.Writes as at

-- ---- work that was begun

pub begun_ok : (k p : ℕ) (w : Work) (r : Result (Unit {0}) BankFault) → Ok w ≡ begun k p r → (Ok tt ≡ r) × (w.replica ≡ k) × (w.place ≡ p)
begun_ok k p w (Ok u) e = let f : w ≡ record { replica = k; place = p } = cc in (refl, ap (λ (x : Work). x.replica) f, ap (λ (x : Work). x.place) f)
begun_ok k p w (Err d) e = let z : ◌≡◌ {A = ℕ} 0 1 = cc in absurd (omega arith)

begun_err : (k p : ℕ) (e : BankFault) (r : Result (Unit {0}) BankFault) → Err e ≡ begun k p r → Err e ≡ r
begun_err k p e (Ok u) h = let z : ◌≡◌ {A = ℕ} 0 1 = cc in absurd (omega arith)
begun_err k p e (Err d) h = cc

err_same : (e f : BankFault) → ◌≡◌ {A = Result (Unit {0}) BankFault} (Err e) (Err f) → e ≡ f
err_same e f h = cc

err_not_ok : (e : BankFault) → ◌≡◌ {A = Result (Unit {0}) BankFault} (Err e) (Ok tt) → ⊥
err_not_ok e h = let z : ◌≡◌ {A = ℕ} 0 1 = cc in omega arith

-- a refused begin leaves the store as it was
module _ (ms : List StoreModel) (k p : ℕ) (e : BankFault) (refused : Err e ≡ begun k p (asked ms k (λ m. begin_answer m p))) where
  pub begin_refused : k < length ms → (d : StoreFault) × (Err d ≡ begin_answer (store_at ms k) p) × (e ≡ At k d)
  begin_refused l = asked_err ms k (λ m. begin_answer m p) e (begun_err k p e _ refused) l

  pub left_alone : (k < length ms → (n : StoreModel) → leaves (begin_answer (store_at ms k) p) (λ _. n) (store_at ms k) ≡ store_at ms k)
  left_alone l n = ap (λ r. leaves r (λ _. n) (store_at ms k)) (sym (begin_refused l).1)

  pub refused_answer : {A : Type 0} (f : StoreModel → Result A StoreFault) {r : Result A BankFault} → r ≡ Err e → r ≡ asked ms k (λ m. bind (begin_answer m p) (λ _. f m))
  refused_answer {A} f h = h ∙ by_range
    where
      by_range : ◌≡◌ {A = Result A BankFault} (Err e) (asked ms k (λ m. bind (begin_answer m p) (λ _. f m)))
      by_range =
          ⊎_elim
          (λ l.
          let d = begin_refused l in
          ap (λ x. Err x) d.2 ∙ ap (λ r. lifted k (bind r (λ _. f (store_at ms k)))) d.1 ∙ sym (asked_at ms k (λ m. bind (begin_answer m p) (λ _. f m)) l))
          (λ g. ap (λ x. Err x) (err_same e (NoReplica k) (begun_err k p e _ refused ∙ asked_past ms k (λ m. begin_answer m p) g)) ∙ sym (asked_past ms k (λ m. bind (begin_answer m p) (λ _. f m)) g))
          (cases_lt k (length ms))

-- ---- opened and written

module _ (ms ms₁ : List StoreModel) (k p : ℕ) (ps : Pairs) (fit : Fit ps) (began : ms₁ ≡ changed ms k (λ m. begin_after m p)) where
  pub open_refused : (e : BankFault) → Err e ≡ begun k p (asked ms k (λ m. begin_answer m p)) → ms₁ ≡ changed ms k (λ m. opened_after m p ps)
  open_refused e h = began ∙ changed_agree ms k (λ m. begin_after m p) (λ m. opened_after m p ps) (λ l. left_alone ms k p e h l _ ∙ sym (left_alone ms k p e h l _))

  module _ (w : Work) (opened : Ok w ≡ begun k p (asked ms k (λ m. begin_answer m p))) where
    at_k : w.replica ≡ k
    at_k = (begun_ok k p w _ opened).1

    at_p : w.place ≡ p
    at_p = (begun_ok k p w _ opened).2

    accepted : (k < length ms) × (Ok tt ≡ begin_answer (store_at ms k) p)
    accepted = asked_ok ms k (λ m. begin_answer m p) tt (begun_ok k p w _ opened).0

    pub open_written : {ms₂ : List StoreModel} → ms₂ ≡ changed ms₁ w.replica (λ m. writes_after m w.place ps) → ms₂ ≡ changed ms k (λ m. opened_after m p ps)
    open_written e =
        e ∙ (λ i. changed (began i) (at_k i) (λ m. writes_after m (at_p i) ps))
        ∙ changed_changed ms k (λ m. begin_after m p) (λ m. writes_after m p ps)
        ∙ changed_agree ms k (λ m. writes_after (begin_after m p) p ps) (λ m. opened_after m p ps) (λ _. (at.open_writes (store_at ms k) p ps fit (sym accepted.1)).1)

    pub open_never : (e : BankFault) → Err e ≡ asked ms₁ w.replica (λ m. writes_answer m w.place ps) → ⊥
    open_never e h =
        err_not_ok e
        (h ∙ (λ i. asked (began i) (at_k i) (λ m. writes_answer m (at_p i) ps))
        ∙ asked_changed ms k (λ m. begin_after m p) (λ m. writes_answer m p ps)
        ∙ asked_at ms k (λ m. writes_answer (begin_after m p) p ps) accepted.0
        ∙ ap (lifted k) (at.open_writes (store_at ms k) p ps fit (sym accepted.1)).0)
