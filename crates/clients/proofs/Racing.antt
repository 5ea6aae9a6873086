-- Two places opened on the same board, settled one after the other. Assumes nothing.
use Rattle.std.proofs.Common.{◌≡◌, ℕ, zero, suc, ◌+◌, ◌<◌, Bool, true, false, cond, ◌&&◌, ◌||◌, eqb, ltb, ◌⊎◌, length, get_or, set, Some, None, Ok, Err, Result, sym, refl, ap, ◌∙◌, inl, inr, ⊎_elim, arith}
use Rattle.std.proofs.lemmas.List.{length-set, length-map, get_or-map, get_or-set_same, get_or-set_other, set_comm, map-set}
use Rattle.std.proofs.lemmas.Bool.{lt-ltb, eq-eqb, ne_eqb, cases_eq, and_parts, and_from, or_cases, or_left, or_right}
use Rattle.tickets.specs.WriteSets.{Pairs, lookup, stands, shares}
use Rattle.tickets.proofs.Playing.{shares_from, shares_common}
use Rattle.stores.specs.declared.fault.StoreFault.{StoreFault}
use Rattle.stores.specs.declared.fault.StoreFault.TheVariants.{Overtaken, PlaceOpen}
use Rattle.stores.specs.Model.{StoreModel, Place, nothing, any_below, with_place, begin_answer, commit_answer, abort_after, overtaken_by, bind, leaves}
use Rattle.tickets.specs.Meaning.{pairs}
use Rattle.stores.proofs.Steps.{same_place}
use Rattle.clients.specs.declared.race.Entry.{Entry}
use Rattle.clients.specs.declared.race.Order.{Order}
use Rattle.clients.specs.declared.race.Order.TheVariants.{LeftFirst, RightFirst}
use Rattle.clients.specs.Committed.{Closed, room, written_place, opened_after, committed}
use Rattle.banks.specs.Steps.{settled_after}
use Rattle.clients.specs.Races.{first_of, second_of, settled_race, settled_both, both_opened, second_answer, raced, raced_after, winner, loser, race_answer, race_after}
use Rattle.clients.proofs.Pairs.{Fit, set_fits, stands_within}
use Rattle.clients.proofs.Writes.{begin_closed, place_put, put_put, ok_not_err}
use Rattle.clients.proofs.Settles.{settle_answer, settle_after}
use Rattle.clients.proofs.Landing.{any_none}

-- ---- an overtaken object of its own is a common object

any_from : (f : ℕ → Bool) (j n : ℕ) → j < n → f j ≡ true → any_below f n ≡ true
unfolding any_below
any_from f j zero h e = absurd (omega arith)
any_from f j (suc n) h e = ⊎_elim (λ q. or_left _ _ (ap f (sym q) ∙ e)) (λ ne. or_right (f n) _ (any_from f j n (omega (arith, ne)) e)) (cases_eq j n)

any_some : (f : ℕ → Bool) (n : ℕ) → any_below f n ≡ true → (j : ℕ) × (f j ≡ true)
unfolding any_below
any_some f zero e = let z : ◌≡◌ {A = ℕ} 0 1 = cc in absurd (omega arith)
any_some f (suc n) e = elim (or_cases (f n) (any_below f n) e) [ inl h ↦ (n, h) | inr h ↦ any_some f n h ]

same_truth : (a b : Bool) → (a ≡ true → b ≡ true) → (b ≡ true → a ≡ true) → a ≡ b
same_truth true true f g = refl
same_truth true false f g = sym (f refl)
same_truth false true f g = g refl
same_truth false false f g = refl

pub clash_is_sharing : (qs ps : Pairs) → Fit qs → any_below (λ j. stands qs j && (false || stands ps j)) 128 ≡ shares qs ps
clash_is_sharing qs ps fit =
    same_truth _ _
    (λ e.
    let s = any_some (λ j. stands qs j && (false || stands ps j)) 128 e in
    let b = and_parts (stands qs s.0) (stands ps s.0) s.1 in
    shares_from qs ps s.0 b.0 b.1)
    (λ e.
    let c = shares_common qs ps e in
    any_from (λ j. stands qs j && (false || stands ps j)) c.0 128 (stands_within qs c.0 fit.rises c.1.0) (and_from _ _ c.1.0 c.1.1))

-- ---- one place beside another

module _ (m : StoreModel) (p q : ℕ) (x : Place) where
  pub closed_beside : (p ≡ q → ⊥) → Closed m q → Closed (with_place m p (Some x)) q
  closed_beside ne c = (omega (arith, length-set m.places p (Some x), c.0), get_or-set_other m.places p q (Some x) None (λ e. ne (sym e)) ∙ c.1)

  pub begin_beside : p < length m.places → begin_answer (with_place m p (Some x)) q ≡ cond (eqb p q) (Err PlaceOpen) (begin_answer m q)
  begin_beside h =
      ⊎_elim
      (λ e.
      let t : eqb p q ≡ true = eq-eqb p q e in
      let l : ltb q (length (set m.places p (Some x))) ≡ true = lt-ltb q _ (omega (arith, length-set m.places p (Some x))) in
      let g : get_or (set m.places p (Some x)) q None ≡ Some x = ap (λ n. get_or (set m.places p (Some x)) n None) (sym e) ∙ get_or-set_same m.places p (Some x) None h in
      rw (t, l, g))
      (λ ne.
      let f : eqb p q ≡ false = ne_eqb p q ne in
      let l : length (set m.places p (Some x)) ≡ length m.places = length-set m.places p (Some x) in
      let g : get_or (set m.places p (Some x)) q None ≡ get_or m.places q None = get_or-set_other m.places p q (Some x) None (λ e. ne (sym e)) in
      rw (f, l, g))
      (cases_eq p q)

  pub change_places : (y : Place) → (p ≡ q → ⊥) → with_place (with_place m p (Some x)) q (Some y) ≡ with_place (with_place m q (Some y)) p (Some x)
  change_places y ne = ap (λ ps. record { board = m.board; commits = m.commits; most = m.most; places = ps }) (set_comm m.places p q (Some x) (Some y) ne)

closed_committed : (m : StoreModel) (ps : Pairs) (q : ℕ) → Closed m q → Closed (committed m ps) q
closed_committed m ps q c = (
  omega (arith, length-map m.places (overtaken_by (stands ps)), c.0),
  get_or-map (overtaken_by (stands ps)) m.places q None None c.0 ∙ ap (overtaken_by (stands ps)) c.1,
)

-- ---- place p is settled first, then place q

module _ (m : StoreModel) (p q : ℕ) (ne : p ≡ q → ⊥) (cp : Closed m p) (cq : Closed m q) (ps qs : Pairs) (fp : Fit ps) (fq : Fit qs) where
  abbrev mine : Place
  mine = written_place m.board ps

  abbrev theirs : Place
  theirs = written_place m.board qs

  -- the other place, after the first commit
  abbrev overtook : Place
  overtook = record { snapshot = m.board; own = lookup qs; overtaken = λ j. false || stands ps j }

  abbrev alone : StoreModel
  alone = with_place m q (Some theirs)

  abbrev both : StoreModel
  both = with_place alone p (Some mine)

  closed_p : Closed alone p
  closed_p = closed_beside m q p theirs (λ e. ne (sym e)) cp

  first_answer : commit_answer both p ≡ room m
  first_answer = settle_answer alone p closed_p m.board nothing ps fp ∙ ap (λ b. cond b (Err Overtaken) (room m)) (any_none (stands ps) 128)

  first_after : settled_after both p ≡ leaves (room m) (λ _. committed alone ps) alone
  first_after = settle_after alone p closed_p m.board nothing ps fp ∙ ap (λ b. leaves (cond b (Err Overtaken) (room m)) (λ _. committed alone ps) alone) (any_none (stands ps) 128)

  committed_beside : committed alone ps ≡ with_place (committed m ps) q (Some overtook)
  committed_beside = ap (λ l. record { board = (committed m ps).board; commits = m.commits + 1; most = m.most; places = l }) (map-set (overtaken_by (stands ps)) m.places q (Some theirs))

  -- the second committer, by what the first was answered
  abbrev then_answer : Result (Unit {0}) StoreFault → Result (Unit {0}) StoreFault
  then_answer r = bind r (λ _. cond (shares qs ps) (Err Overtaken) (room (committed m ps)))

  second_by : (r : Result (Unit {0}) StoreFault) → room m ≡ r
      → (commit_answer (leaves r (λ _. committed alone ps) alone) q ≡ then_answer r)
      × (settled_after (leaves r (λ _. committed alone ps) alone) q ≡ leaves (then_answer r) (λ _. committed (committed m ps) qs) (leaves r (λ _. committed m ps) m))
  second_by (Ok u) e =
      let c = closed_committed m ps q cq in
      let s = clash_is_sharing qs ps fq in (
        ap (λ n. commit_answer n q) committed_beside ∙ settle_answer (committed m ps) q c m.board (λ j. false || stands ps j) qs fq
            ∙ ap (λ b. cond b (Err Overtaken) (room (committed m ps))) s,
        ap (λ n. settled_after n q) committed_beside ∙ settle_after (committed m ps) q c m.board (λ j. false || stands ps j) qs fq
            ∙ ap (λ b. leaves (cond b (Err Overtaken) (room (committed m ps))) (λ _. committed (committed m ps) qs) (committed m ps)) s,
      )
  second_by (Err f) e =
      let s = any_none (stands qs) 128 in (
        settle_answer m q cq m.board nothing qs fq ∙ ap (λ b. cond b (Err Overtaken) (room m)) s ∙ e,
        settle_after m q cq m.board nothing qs fq ∙ ap (λ b. leaves (cond b (Err Overtaken) (room m)) (λ _. committed m qs) m) s ∙ ap (λ r. leaves r (λ _. committed m qs) m) e,
      )

  pub race_settles : (settled_race both p q ≡ raced m ps qs) × (settled_both both p q ≡ raced_after m ps qs)
  race_settles =
      let s = second_by (room m) refl in
      let a : commit_answer (settled_after both p) q ≡ second_answer m ps qs = ap (λ n. commit_answer n q) first_after ∙ s.0 in
      ((λ i. record { first = first_answer i; second = a i }), ap (λ n. settled_after n q) first_after ∙ s.1)

-- ---- by the entries

module _ (m : StoreModel) (l r : Entry) (free : begin_answer m l.place ≡ Ok tt) where
  abbrev p : ℕ
  p = l.place

  abbrev q : ℕ
  q = r.place

  abbrev ps : Pairs
  ps = pairs l.set

  abbrev qs : Pairs
  qs = pairs r.set

  -- the left place is open
  abbrev pub left_open : StoreModel
  left_open = with_place m p (Some (written_place m.board ps))

  pub left_opened : opened_after m p ps ≡ left_open
  left_opened = ap (λ k. leaves k (λ _. left_open) m) free

  pub both_is : both_opened m p q ≡ begin_answer left_open q
  both_is = ap (λ k. bind k (λ _. cond (eqb p q) (Err PlaceOpen) (begin_answer m q))) free ∙ sym (begin_beside m p q (written_place m.board ps) (begin_closed m p free).0)

  -- the right one is not
  pub left_freed : abort_after left_open p ≡ m
  left_freed =
      let c = begin_closed m p free in
      ap (λ k. leaves k (λ _. with_place left_open p None) left_open) (place_put m p c.0 (written_place m.board ps))
      ∙ put_put m p c.0 (Some (written_place m.board ps)) None ∙ same_place m p None c.1

  pub right_refused : (o : Order) (e : StoreFault) → begin_answer left_open q ≡ Err e → (Err e ≡ race_answer m l r o) × (m ≡ race_after m l r o)
  right_refused o e h =
      let b = both_is ∙ h in
      (ap (λ k. bind k (λ _. Ok (raced m (winner l r o) (loser l r o)))) (sym b), ap (λ k. leaves k (λ _. raced_after m (winner l r o) (loser l r o)) m) (sym b))

  -- the right one is open too
  module _ (free₂ : begin_answer left_open q ≡ Ok tt) where
    abbrev pub right_open : StoreModel
    right_open = with_place left_open q (Some (written_place m.board qs))

    pub right_opened : opened_after left_open q qs ≡ right_open
    right_opened = ap (λ k. leaves k (λ _. right_open) left_open) free₂

    apart : (p ≡ q → ⊥) × (begin_answer m q ≡ Ok tt)
    apart = by_cases (cases_eq p q) (sym (begin_beside m p q (written_place m.board ps) (begin_closed m p free).0) ∙ free₂)
      where
        by_cases : (p ≡ q) ⊎ (p ≡ q → ⊥) → cond (eqb p q) (Err PlaceOpen) (begin_answer m q) ≡ Ok tt → (p ≡ q → ⊥) × (begin_answer m q ≡ Ok tt)
        by_cases (inl e) h = let t : eqb p q ≡ true = eq-eqb p q e in absurd (ok_not_err PlaceOpen (rw t at h))
        by_cases (inr ne) h = let f : eqb p q ≡ false = ne_eqb p q ne in (ne, rw f at h)

    pub settles : (o : Order) → (settled_race right_open (first_of o p q) (second_of o p q) ≡ raced m (winner l r o) (loser l r o))
        × (settled_both right_open (first_of o p q) (second_of o p q) ≡ raced_after m (winner l r o) (loser l r o))
    settles LeftFirst =
        let cp = begin_closed m p free in
        let cq = begin_closed m q apart.1 in
        let e = change_places m p q (written_place m.board ps) (written_place m.board qs) apart.0 in
        let s = race_settles m p q apart.0 cp cq ps qs (set_fits l.set) (set_fits r.set) in
        (ap (λ n. settled_race n p q) e ∙ s.0, ap (λ n. settled_both n p q) e ∙ s.1)
    settles RightFirst =
        let cp = begin_closed m p free in
        let cq = begin_closed m q apart.1 in
        race_settles m q p (λ e. apart.0 (sym e)) cq cp qs ps (set_fits r.set) (set_fits l.set)

    pub both_raced : (o : Order) → (Ok (raced m (winner l r o) (loser l r o)) ≡ race_answer m l r o) × (raced_after m (winner l r o) (loser l r o) ≡ race_after m l r o)
    both_raced o =
        let b = both_is ∙ free₂ in
        (ap (λ k. bind k (λ _. Ok (raced m (winner l r o) (loser l r o)))) (sym b), ap (λ k. leaves k (λ _. raced_after m (winner l r o) (loser l r o)) m) (sym b))
