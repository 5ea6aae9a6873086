-- What the whole calls at a bank come to. Assumes nothing.
use Rattle.std.proofs.Common.{◌≡◌, ℕ, List, Some, None, Ok, Err, Result, sym, ap, ◌∙◌}
use Rattle.tickets.specs.WriteSets.{Pairs}
use Rattle.stores.specs.Model.{StoreModel, with_place, fresh, begin_answer, begin_after, read_answer, read_at, value_answer, commit_answer, abort_after, bind, leaves}
use Rattle.stores.proofs.Steps.{same_place}
use Rattle.banks.specs.declared.fault.BankFault.{BankFault}
use Rattle.banks.specs.declared.work.Work.{Work}
use Rattle.banks.specs.Works.{begun}
use Rattle.banks.specs.Model.{store_at, lifted, asked, changed}
use Rattle.banks.proofs.Calls.{asked_at, asked_ok, asked_agree, changed_agree, changed_same, changed_at, asked_changed, changed_changed}
use Rattle.clients.specs.Committed.{room, committed, opened_after, write_set_answer, write_set_after}
use Rattle.banks.specs.Steps.{settled_after}
use Rattle.clients.specs.AtBank.{LandsAt, look_answer}
use Rattle.clients.proofs.Pairs.{Fit}
use Rattle.clients.proofs.Writes.{begin_closed, place_put, put_put}
use Rattle.clients.proofs.Landing.{lands_answer, lands_after, lands, landed}
use Rattle.clients.proofs.AtBank.{begun_ok, begin_refused, left_alone}

-- ---- a write set committed in a place of its own

module _ (ms ms₁ : List StoreModel) (k p : ℕ) (ps : Pairs) (fit : Fit ps) (wrote : ms₁ ≡ changed ms k (λ m. opened_after m p ps)) where
  pub not_opened : (e : BankFault) → Err e ≡ begun k p (asked ms k (λ m. begin_answer m p)) → ms₁ ≡ changed ms k (λ m. write_set_after m p ps)
  not_opened e h =
      wrote ∙ changed_agree ms k (λ m. opened_after m p ps) (λ m. write_set_after m p ps)
      (λ l. left_alone ms k p e h l _ ∙ ap (λ r. leaves (bind r (λ _. room (store_at ms k))) (λ _. committed (store_at ms k) ps) (store_at ms k)) (begin_refused ms k p e h l).1)

  module _ (w : Work) (opened : Ok w ≡ begun k p (asked ms k (λ m. begin_answer m p))) where
    free : begin_answer (store_at ms k) p ≡ Ok tt
    free = sym (asked_ok ms k (λ m. begin_answer m p) tt (begun_ok k p w _ opened).0).1

    pub committed_answer : {r : Result (Unit {0}) BankFault} → r ≡ asked ms₁ w.replica (λ m. commit_answer m w.place) → r ≡ asked ms k (λ m. write_set_answer m p)
    committed_answer e =
        let b = begun_ok k p w _ opened in
        e ∙ (λ i. asked (wrote i) (b.1 i) (λ m. commit_answer m (b.2 i)))
        ∙ asked_changed ms k (λ m. opened_after m p ps) (λ m. commit_answer m p)
        ∙ asked_agree ms k (λ m. commit_answer (opened_after m p ps) p) (λ m. write_set_answer m p) (λ _. lands_answer (store_at ms k) p ps fit free)

    pub committed_after : {ms₂ : List StoreModel} → ms₂ ≡ changed ms₁ w.replica (λ m. settled_after m w.place) → ms₂ ≡ changed ms k (λ m. write_set_after m p ps)
    committed_after e =
        let b = begun_ok k p w _ opened in
        e ∙ (λ i. changed (wrote i) (b.1 i) (λ m. settled_after m (b.2 i)))
        ∙ changed_changed ms k (λ m. opened_after m p ps) (λ m. settled_after m p)
        ∙ changed_agree ms k (λ m. settled_after (opened_after m p ps) p) (λ m. write_set_after m p ps) (λ _. lands_after (store_at ms k) p ps fit free)

pub lands_at : (ms ms' : List StoreModel) (k p : ℕ) (ps : Pairs) (r : Result (Unit {0}) BankFault)
    → r ≡ asked ms k (λ m. write_set_answer m p) → ms' ≡ changed ms k (λ m. write_set_after m p ps) → LandsAt ms k p ps r ms'
lands_at ms ms' k p ps r answer after l closed less = (
  answer ∙ asked_at ms k (λ m. write_set_answer m p) l ∙ ap (lifted k) (lands (store_at ms k) p ps closed less),
  landed (store_at ms k) p ps closed less (ap (λ ns. store_at ns k) after ∙ changed_at ms k (λ m. write_set_after m p ps) l),
)

-- ---- a look

module _ (m : StoreModel) (p : ℕ) (free : begin_answer m p ≡ Ok tt) where
  begun_is_fresh : begin_after m p ≡ with_place m p (Some (fresh m.board))
  begun_is_fresh = ap (λ r. leaves r (λ _. with_place m p (Some (fresh m.board))) m) free

  fresh_read : (j : ℕ) → read_answer (begin_after m p) p j ≡ look_answer m p j
  fresh_read j =
      ap (λ n. read_answer n p j) begun_is_fresh ∙ ap (λ r. bind r (read_at j)) (place_put m p (begin_closed m p free).0 (fresh m.board))
      ∙ ap (λ r. bind r (λ _. value_answer m j)) (sym free)

  fresh_aborted : abort_after (begin_after m p) p ≡ m
  fresh_aborted =
      let c = begin_closed m p free in
      ap (λ n. abort_after n p) begun_is_fresh ∙ ap (λ r. leaves r (λ _. with_place (with_place m p (Some (fresh m.board))) p None) (with_place m p (Some (fresh m.board)))) (place_put m p c.0 (fresh m.board))
      ∙ put_put m p c.0 (Some (fresh m.board)) None ∙ same_place m p None c.1

module _ (ms ms₁ : List StoreModel) (k p : ℕ) (began : ms₁ ≡ changed ms k (λ m. begin_after m p)) where
  pub look_refused : (e : BankFault) → Err e ≡ begun k p (asked ms k (λ m. begin_answer m p)) → ms₁ ≡ ms
  look_refused e h = began ∙ changed_same ms k (λ m. begin_after m p) (λ l. left_alone ms k p e h l _)

  module _ (w : Work) (opened : Ok w ≡ begun k p (asked ms k (λ m. begin_answer m p))) where
    free_there : begin_answer (store_at ms k) p ≡ Ok tt
    free_there = sym (asked_ok ms k (λ m. begin_answer m p) tt (begun_ok k p w _ opened).0).1

    pub looked : (j : ℕ) {r : Result ℕ BankFault} → r ≡ asked ms₁ w.replica (λ m. read_answer m w.place j) → r ≡ asked ms k (λ m. look_answer m p j)
    looked j e =
        let b = begun_ok k p w _ opened in
        e ∙ (λ i. asked (began i) (b.1 i) (λ m. read_answer m (b.2 i) j))
        ∙ asked_changed ms k (λ m. begin_after m p) (λ m. read_answer m p j)
        ∙ asked_agree ms k (λ m. read_answer (begin_after m p) p j) (λ m. look_answer m p j) (λ _. fresh_read (store_at ms k) p free_there j)

    pub left_as_it_was : {ms₂ : List StoreModel} → ms₂ ≡ changed ms₁ w.replica (λ m. abort_after m w.place) → ms₂ ≡ ms
    left_as_it_was e =
        let b = begun_ok k p w _ opened in
        e ∙ (λ i. changed (began i) (b.1 i) (λ m. abort_after m (b.2 i)))
        ∙ changed_changed ms k (λ m. begin_after m p) (λ m. abort_after m p)
        ∙ changed_same ms k (λ m. abort_after (begin_after m p) p) (λ _. fresh_aborted (store_at ms k) p free_there)
