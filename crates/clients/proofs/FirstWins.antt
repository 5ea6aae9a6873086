-- What the calls of a race come to, and that the first committer wins. Assumes nothing.
use Rattle.std.proofs.Common.{◌≡◌, ℕ, ◌<◌, true, false, cond, eqb, Some, Ok, Err, Result, sym, ap, ◌∙◌}
use Rattle.std.proofs.lemmas.Bool.{ne_eqb}
use Rattle.tickets.specs.WriteSets.{Pairs, shares}
use Rattle.tickets.specs.Meaning.{pairs}
use Rattle.tickets.proofs.Playing.{shares_either_way}
use Rattle.stores.specs.declared.fault.StoreFault.{StoreFault}
use Rattle.stores.specs.declared.fault.StoreFault.TheVariants.{Overtaken, PlaceOpen}
use Rattle.banks.specs.declared.work.Work.{Work}
use Rattle.stores.specs.Model.{StoreModel, with_place, begin_answer, abort_after, bind, leaves}
use Rattle.clients.specs.declared.race.Entry.{Entry}
use Rattle.clients.specs.declared.race.Order.{Order}
use Rattle.clients.specs.declared.race.Order.TheVariants.{LeftFirst, RightFirst}
use Rattle.clients.specs.declared.race.Race.{Race}
use Rattle.clients.specs.Committed.{Closed, room, written_place, committed, opened_after}
use Rattle.clients.specs.Races.{first_of, second_of, settled_race, settled_both, both_opened, second_answer, raced, raced_after, winner, loser, race_answer, race_after, FirstCommitterWins}
use Rattle.clients.proofs.Writes.{closed_begin}
use Rattle.clients.proofs.AtStore.{begun_there, begun_is, begun_err}
use Rattle.clients.proofs.Landing.{roomy, committed_lands}
use Rattle.clients.proofs.Racing.{left_open, left_opened, left_freed, right_refused, right_opened, settles, both_raced}

-- ---- the calls, one after the other

module _ (m : StoreModel) (l r : Entry) (o : Order) (e : StoreFault) (refused : Err e ≡ begun_there l.place (begin_answer m l.place)) where
  left_err : begin_answer m l.place ≡ Err e
  left_err = begun_err l.place e (begin_answer m l.place) refused

  not_both : both_opened m l.place r.place ≡ Err e
  not_both = ap (λ k. bind k (λ _. cond (eqb l.place r.place) (Err PlaceOpen) (begin_answer m r.place))) left_err

  pub left_refused_answered : Err e ≡ race_answer m l r o
  left_refused_answered = sym (ap (λ k. bind k (λ _. Ok (raced m (winner l r o) (loser l r o)))) not_both)

  pub left_refused_left : {m₁ : StoreModel} → m₁ ≡ opened_after m l.place (pairs l.set) → m₁ ≡ race_after m l r o
  left_refused_left h =
      h ∙ ap (λ k. leaves k (λ _. with_place m l.place (Some (written_place m.board (pairs l.set)))) m) left_err
      ∙ sym (ap (λ k. leaves k (λ _. raced_after m (winner l r o) (loser l r o)) m) not_both)

module _ (m m₁ m₂ : StoreModel) (l r : Entry) (o : Order) (a : Work) (opened : Ok a ≡ begun_there l.place (begin_answer m l.place)) (wrote : m₁ ≡ opened_after m l.place (pairs l.set))
    (wrote₂ : m₂ ≡ opened_after m₁ r.place (pairs r.set)) where
  left_at : a.place ≡ l.place
  left_at = (begun_is l.place a (begin_answer m l.place) opened).1

  left_free : begin_answer m l.place ≡ Ok tt
  left_free = (begun_is l.place a (begin_answer m l.place) opened).0

  is_open : m₁ ≡ left_open m l r left_free
  is_open = wrote ∙ left_opened m l r left_free

  module _ (b : Work) (opened₂ : Ok b ≡ begun_there r.place (begin_answer m₁ r.place)) where
    right_at : b.place ≡ r.place
    right_at = (begun_is r.place b (begin_answer m₁ r.place) opened₂).1

    right_free : begin_answer (left_open m l r left_free) r.place ≡ Ok tt
    right_free = ap (λ n. begin_answer n r.place) (sym is_open) ∙ (begun_is r.place b (begin_answer m₁ r.place) opened₂).0

    pub race_answered : {s : Race} → s ≡ settled_race m₂ (first_of o a.place b.place) (second_of o a.place b.place) → Ok s ≡ race_answer m l r o
    race_answered e =
        let n = wrote₂ ∙ ap (λ k. opened_after k r.place (pairs r.set)) is_open ∙ right_opened m l r left_free right_free in
        ap (λ s. Ok s) (e ∙ (λ i. settled_race (n i) (first_of o (left_at i) (right_at i)) (second_of o (left_at i) (right_at i))) ∙ (settles m l r left_free right_free o).0)
        ∙ (both_raced m l r left_free right_free o).0

    pub race_left : {m₃ : StoreModel} → m₃ ≡ settled_both m₂ (first_of o a.place b.place) (second_of o a.place b.place) → m₃ ≡ race_after m l r o
    race_left e =
        let n = wrote₂ ∙ ap (λ k. opened_after k r.place (pairs r.set)) is_open ∙ right_opened m l r left_free right_free in
        e ∙ (λ i. settled_both (n i) (first_of o (left_at i) (right_at i)) (second_of o (left_at i) (right_at i))) ∙ (settles m l r left_free right_free o).1
        ∙ (both_raced m l r left_free right_free o).1

  module _ (e : StoreFault) (refused : Err e ≡ begun_there r.place (begin_answer m₁ r.place)) where
    right_err : begin_answer (left_open m l r left_free) r.place ≡ Err e
    right_err = ap (λ n. begin_answer n r.place) (sym is_open) ∙ begun_err r.place e (begin_answer m₁ r.place) refused

    pub refused_answered : Err e ≡ race_answer m l r o
    refused_answered = (right_refused m l r left_free o e right_err).0

    pub refused_left : {m₃ : StoreModel} → m₃ ≡ abort_after m₂ a.place → m₃ ≡ race_after m l r o
    refused_left h =
        let n = wrote₂ ∙ ap (λ k. leaves k (λ _. with_place m₁ r.place (Some (written_place m₁.board (pairs r.set)))) m₁) (begun_err r.place e (begin_answer m₁ r.place) refused) ∙ is_open in
        h ∙ (λ i. abort_after (n i) (left_at i)) ∙ left_freed m l r left_free ∙ (right_refused m l r left_free o e right_err).1

-- ---- the first committer wins

module _ (m : StoreModel) (ps qs : Pairs) (less : m.commits < m.most) (common : shares qs ps ≡ true) where
  overtaken_second : second_answer m ps qs ≡ Err Overtaken
  overtaken_second = ap (λ r. bind r (λ _. cond (shares qs ps) (Err Overtaken) (room (committed m ps)))) (roomy m less) ∙ ap (λ b. cond b (Err Overtaken) (room (committed m ps))) common

  first_raced : raced m ps qs ≡ record { first = Ok tt; second = Err Overtaken }
  first_raced = λ i. record { first = roomy m less i; second = overtaken_second i }

  first_left : raced_after m ps qs ≡ committed m ps
  first_left =
      ap (λ r. leaves r (λ _. committed (committed m ps) qs) (leaves (room m) (λ _. committed m ps) m)) overtaken_second ∙ ap (λ r. leaves r (λ _. committed m ps) m) (roomy m less)

both_closed : (m : StoreModel) (p q : ℕ) → Closed m p → Closed m q → (p ≡ q → ⊥) → both_opened m p q ≡ Ok tt
both_closed m p q cp cq ne =
    let f : eqb p q ≡ false = ne_eqb p q ne in
    ap (λ r. bind r (λ _. cond (eqb p q) (Err PlaceOpen) (begin_answer m q))) (closed_begin m p cp) ∙ ap (λ b. cond b (Err PlaceOpen) (begin_answer m q)) f ∙ closed_begin m q cq

second_shares : (l r : Entry) (o : Order) → shares (pairs l.set) (pairs r.set) ≡ true → shares (loser l r o) (winner l r o) ≡ true
second_shares l r LeftFirst s = shares_either_way (pairs r.set) (pairs l.set) ∙ s
second_shares l r RightFirst s = s

pub first_committer_wins : (m : StoreModel) (l r : Entry) (o : Order) (a : Result Race StoreFault) (m' : StoreModel) → a ≡ race_answer m l r o → m' ≡ race_after m l r o → FirstCommitterWins m l r o a m'
first_committer_wins m l r o a m' answer after cl cr ne less s =
    let b = both_closed m l.place r.place cl cr ne in
    let c = second_shares l r o s in
    let w = winner l r o in
    let n = loser l r o in
    let left : m' ≡ committed m w = after ∙ ap (λ k. leaves k (λ _. raced_after m w n) m) b ∙ first_left m w n less c in
    record {
      answers = answer ∙ ap (λ k. bind k (λ _. Ok (raced m w n))) b ∙ ap (λ x. Ok x) (first_raced m w n less c);
      landed = rw left (committed_lands m w);
    }
