-- Work that is settled: committed, or aborted where the store is full. Assumes nothing.
use Rattle.std.proofs.Common.{◌≡◌, ℕ, zero, suc, ◌+◌, ◌<◌, Bool, true, false, cond, eqb, List, [], ◌∷◌, map, length, get_or, set, is_some, Some, None, Ok, Err, Option, Result, sym, refl, ap, ◌∙◌, ⊎_elim, arith}
use Rattle.std.proofs.lemmas.List.{get_or-map, map-set, set-set, set-get_or}
use Rattle.std.proofs.lemmas.Bool.{ne_eqb, cases_eq, cond-true, eq-eqb}
use Rattle.tickets.specs.Boards.{Board}
use Rattle.tickets.specs.WriteSets.{Pairs, lookup, stands}
use Rattle.stores.specs.declared.fault.StoreFault.{StoreFault}
use Rattle.stores.specs.declared.fault.StoreFault.TheVariants.{Overtaken, Full}
use Rattle.stores.specs.Model.{StoreModel, Place, with_place, own_count, clashes, count_below, commit_answer, landed, overtaken_by, spread, leaves}
use Rattle.stores.proofs.Steps.{same_place}
use Rattle.clients.specs.Committed.{Closed, room, committed}
use Rattle.banks.specs.Steps.{ended_after, settled_after}
use Rattle.clients.proofs.Pairs.{Fit, first_within, played_is_play}
use Rattle.clients.proofs.Writes.{place_put, put_put}

-- ---- a place that is open beside the others, with a write set of its own

count_has : (f : ℕ → Bool) (j n : ℕ) → j < n → f j ≡ true → 0 < count_below f n
unfolding count_below
count_has f j zero h e = absurd (omega arith)
count_has f j (suc n) h e =
    ⊎_elim (λ q. omega (arith, ap (λ b. cond {A = ℕ} b 1 0) (ap f (sym q) ∙ e))) (λ ne. omega (arith, count_has f j n (omega (arith, ne)) e)) (cases_eq j n)

first_stands : (j v : ℕ) (ps : Pairs) → stands ((j, v) ∷ ps) j ≡ true
first_stands j v ps = ap is_some (cond-true (eqb j j) (Some v) (lookup ps j) (eq-eqb j j refl))

some_written : (ps : Pairs) → Fit ps → 0 < count_below (stands ps) 128
some_written [] fit = absurd (omega (arith, fit.some))
some_written ((j, v) ∷ ps) fit = count_has (stands ((j, v) ∷ ps)) j 128 (first_within 0 j v ps fit.rises).1 (first_stands j v ps)

kept_closed : (f : Option Place → Option Place) (xs : List (Option Place)) (p : ℕ) → f None ≡ None → p < length xs → get_or xs p None ≡ None → set (map f xs) p None ≡ map f xs
kept_closed f xs p n h e =
    ap (set (map f xs) p) (sym (get_or-map f xs p None None h ∙ ap f e ∙ n)) ∙ set-get_or (map f xs) p None

abbrev outcome : Bool → Bool → Result (Unit {0}) StoreFault
outcome clash full = cond clash (Err Overtaken) (cond full (Err Full) (Ok tt))

module _ (m : StoreModel) (p : ℕ) (closed : Closed m p) (board : Board) (taken : ℕ → Bool) (ps : Pairs) (fit : Fit ps) where
  abbrev pub beside : Place
  beside = record { snapshot = board; own = lookup ps; overtaken = taken }

  abbrev opened : StoreModel
  opened = with_place m p (Some beside)

  -- what the commit answers
  abbrev pub verdict : Result (Unit {0}) StoreFault
  verdict = cond (clashes beside) (Err Overtaken) (room m)

  freed_again : with_place opened p None ≡ m
  freed_again = put_put m p closed.0 (Some beside) None ∙ same_place m p None closed.1

  lands : landed opened p beside ≡ committed m ps
  lands =
      let f = overtaken_by (stands ps) in
      let xs = m.places in
      let places : set (map f (set xs p (Some beside))) p None ≡ map f xs =
      ap (λ l. set l p None) (map-set f xs p (Some beside)) ∙ set-set (map f xs) p (f (Some beside)) None ∙ kept_closed f xs p refl closed.0 closed.1 in
      ap (λ l. record { board = (spread m (lookup ps)).board; commits = m.commits + 1; most = m.most; places = l }) places
      ∙ ap (λ b. record { board = b; commits = m.commits + 1; most = m.most; places = map f xs }) (played_is_play ps m.board)

  by_cases : (c f : Bool) → ended_after (cond c (with_place opened p None) (cond f opened (landed opened p beside))) p (outcome c f) ≡ leaves (outcome c f) (λ _. committed m ps) m
  by_cases true f = freed_again
  by_cases false true = ap (λ r. leaves r (λ _. with_place opened p None) opened) (place_put m p closed.0 beside) ∙ freed_again
  by_cases false false = lands

  pub settle_answer : commit_answer opened p ≡ verdict
  settle_answer =
      let e = place_put m p closed.0 beside in
      let n : eqb (own_count beside) 0 ≡ false = ne_eqb _ _ (λ z. omega (arith, some_written ps fit)) in
      rw (e, n)

  pub settle_after : settled_after opened p ≡ leaves verdict (λ _. committed m ps) m
  settle_after =
      let e = place_put m p closed.0 beside in
      let n : eqb (own_count beside) 0 ≡ false = ne_eqb _ _ (λ z. omega (arith, some_written ps fit)) in
      rw (e, n) (by_cases (clashes beside) (eqb m.commits m.most))
