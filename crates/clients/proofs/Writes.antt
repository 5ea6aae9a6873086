-- A whole write set written into a place that was just opened. Assumes nothing.
use Rattle.std.proofs.Common.{◌≡◌, ℕ, zero, suc, ◌+◌, ◌<◌, ◌≤◌, Bool, true, false, cond, ◌||◌, ltb, [], ◌∷◌, length, get_or, set, is_some, Some, None, Ok, Err, Option, Result, sym, refl, ap, ◌∙◌, ⊎_elim, arith}
use Rattle.std.proofs.lemmas.List.{length-set, get_or-set_same, set-set}
use Rattle.std.proofs.lemmas.Bool.{lt-ltb, ltb-true, ne_eqb, cases_eq, or_right}
use Rattle.tickets.specs.WriteSets.{Pairs, rising}
use Rattle.stores.specs.declared.fault.StoreFault.{StoreFault}
use Rattle.stores.specs.declared.fault.StoreFault.TheVariants.{NoPlace}
use Rattle.stores.specs.Model.{StoreModel, Place, place_at, vacant, with_place, with_own, write_answer, write_after, own_count, written, count_below, begin_answer, begin_after, fresh, leaves}
use Rattle.banks.proofs.Writes.{writes_ok}
use Rattle.clients.specs.Committed.{Closed, written_place, opened_after}
use Rattle.banks.specs.Steps.{writes_answer, writes_after}
use Rattle.clients.proofs.Pairs.{Fit, first_within, own_from, own_is_lookup}

-- ---- counts

count_same : (f g : ℕ → Bool) (n : ℕ) → ((k : ℕ) → k < n → g k ≡ f k) → count_below g n ≡ count_below f n
unfolding count_below
count_same f g zero h = refl
count_same f g (suc n) h = λ i. cond (h n (omega arith) i) 1 0 + count_same f g n (λ k l. h k (omega arith)) i

bit_le : (b : Bool) → cond b 1 0 ≤ 1
bit_le true = omega arith
bit_le false = omega arith

-- one object more is at most one more
count_one : (f g : ℕ → Bool) (j n : ℕ) → ((k : ℕ) → (k ≡ j → ⊥) → g k ≡ f k) → count_below g n ≤ count_below f n + 1
unfolding count_below
count_one f g j zero h = omega arith
count_one f g j (suc n) h =
    ⊎_elim (λ q. omega (arith, bit_le (g n), count_same f g n (λ k l. h k (λ e. omega arith))))
    (λ ne. omega (arith, ap (λ b. cond {A = ℕ} b 1 0) (h n ne), count_one f g j n h)) (cases_eq n j)

count_none : (n : ℕ) → count_below (λ j. false) n ≡ 0
unfolding count_below
count_none zero = refl
count_none (suc n) = omega (arith, count_none n)

-- ---- a whole write set

module _ (m : StoreModel) (p : ℕ) (in' : p < length m.places) where
  pub place_put : (x : Place) → place_at (with_place m p (Some x)) p ≡ Ok x
  place_put x =
      let l : ltb p (length (set m.places p (Some x))) ≡ true = lt-ltb p _ (omega (arith, length-set m.places p (Some x))) in
      let g : get_or (set m.places p (Some x)) p None ≡ Some x = get_or-set_same m.places p (Some x) None in' in
      rw (l, g)

  pub put_put : (a b : Option Place) → with_place (with_place m p a) p b ≡ with_place m p b
  put_put a b = ap (λ ps. record { board = m.board; commits = m.commits; most = m.most; places = ps }) (set-set m.places p a b)

  kept_count : (x : Place) (j v : ℕ) → own_count (with_own x j v) ≤ own_count x + 1
  kept_count x j v = count_one (written x) (written (with_own x j v)) j 128 (λ k ne. ap (λ b. is_some (cond b (Some v) (x.own k))) (ne_eqb k j ne))

  one_write : (x : Place) (j v : ℕ) → j < 128 → own_count x < 8
      → (write_answer (with_place m p (Some x)) p j v ≡ Ok tt) × (write_after (with_place m p (Some x)) p j v ≡ with_place m p (Some (with_own x j v)))
  one_write x j v h k =
      let e = place_put x in
      let a : ltb j 128 ≡ true = lt-ltb j 128 h in
      let b : (written x j || ltb (own_count x) 8) ≡ true = or_right _ _ (lt-ltb _ 8 k) in
      (rw (e, a, b), rw (e, a, b) (put_put (Some x) (Some (with_own x j v))))

  abbrev with_owns : Place → Pairs → Place
  with_owns x ps = record { snapshot = x.snapshot; own = own_from ps x.own; overtaken = x.overtaken }

  all_writes : (low : ℕ) (x : Place) (ps : Pairs) → rising low ps ≡ true → own_count x + length ps ≤ 8
      → (writes_answer (with_place m p (Some x)) p ps ≡ Ok tt) × (writes_after (with_place m p (Some x)) p ps ≡ with_place m p (Some (with_owns x ps)))
  all_writes low x [] r k = (refl, refl)
  all_writes low x ((j, v) ∷ ps) r k =
      let a = first_within low j v ps r in
      let o = one_write x j v a.1 (omega arith) in
      let q = writes_ok (with_place m p (Some x)) p (j, v) ps o.0 in
      let w = all_writes (suc j) (with_own x j v) ps a.2 (omega (arith, kept_count x j v)) in
      (q.0 ∙ ap (λ n. writes_answer n p ps) o.1 ∙ w.0, q.1 ∙ ap (λ n. writes_after n p ps) o.1 ∙ w.1)

opened_within : (b : Bool) (o : Option Place) → cond b (vacant o) (Err NoPlace) ≡ Ok tt → (b ≡ true) × (o ≡ None)
opened_within true (Some x) e = let z : ◌≡◌ {A = ℕ} 0 1 = cc in absurd (omega arith)
opened_within true None e = (refl, refl)
opened_within false o e = let z : ◌≡◌ {A = ℕ} 0 1 = cc in absurd (omega arith)

-- a place can be opened exactly where it is closed
pub begin_closed : (m : StoreModel) (p : ℕ) → begin_answer m p ≡ Ok tt → Closed m p
begin_closed m p e = let w = opened_within (ltb p (length m.places)) (get_or m.places p None) e in (ltb-true p _ w.0, w.1)

pub closed_begin : (m : StoreModel) (p : ℕ) → Closed m p → begin_answer m p ≡ Ok tt
closed_begin m p h =
    let l : ltb p (length m.places) ≡ true = lt-ltb p _ h.0 in
    let n : get_or m.places p None ≡ None = h.1 in
    rw (l, n)

-- a write set fits into a place that was just opened
pub open_writes : (m : StoreModel) (p : ℕ) (ps : Pairs) → Fit ps → begin_answer m p ≡ Ok tt
    → (writes_answer (begin_after m p) p ps ≡ Ok tt) × (writes_after (begin_after m p) p ps ≡ opened_after m p ps)
open_writes m p ps fit free =
    let c = begin_closed m p free in
    let b = m.board in
    let a : begin_after m p ≡ with_place m p (Some (fresh b)) = ap (λ k. leaves k (λ _. with_place m p (Some (fresh b))) m) free in
    let o : opened_after m p ps ≡ with_place m p (Some (written_place b ps)) = ap (λ k. leaves k (λ _. with_place m p (Some (written_place b ps))) m) free in
    let w = all_writes m p c.0 0 (fresh b) ps fit.rises (omega (arith, count_none 128, fit.few)) in
    let s : with_place m p (Some (with_owns m p c.0 (fresh b) ps)) ≡ with_place m p (Some (written_place b ps)) =
    ap (λ own. with_place m p (Some (record { snapshot = b; own = own; overtaken = λ j. false }))) (own_is_lookup ps fit.rises) in
    (ap (λ n. writes_answer n p ps) a ∙ w.0, ap (λ n. writes_after n p ps) a ∙ w.1 ∙ s ∙ sym o)

pub ok_not_err : (e : StoreFault) → ◌≡◌ {A = Result (Unit {0}) StoreFault} (Err e) (Ok tt) → ⊥
ok_not_err e h = let z : ◌≡◌ {A = ℕ} 0 1 = cc in omega arith
