-- Every store call keeps what every store keeps.
use Rattle.std.proofs.Common.{◌≡◌, ℕ, zero, suc, ◌<◌, ◌≤◌, Bool, true, false, cond, ◌||◌, eqb, ltb, List, [], ◌∷◌, length, get_or, set, is_some, Some, None, Ok, Err, Option, Result, refl, ap, ◌∙◌, ⊎_elim, arith, length-set}
use lib.ListN.{length-map, get_or-map}
use Rattle.std.proofs.lemmas.Bool.{ltb-true, ne_eqb, eqb-false, or_cases}
use Rattle.stores.specs.declared.fault.StoreFault.{StoreFault}
use Rattle.stores.specs.declared.fault.StoreFault.TheVariants.{NoPlace, NoObject, NinthObject}
use Rattle.stores.specs.Model.{StoreModel, Place, Lawful, OwnLawful, with_own, no_writes, written, own_count, clashes, fresh, with_place, held, vacant}
use Rattle.stores.specs.Model.{leaves, bind, write_at, overtaken_by, spread, landed, commit_left, begin_after, write_after, commit_after, abort_after}
use Rattle.stores.proofs.Steps.{length-played}
use Rattle.errands.proofs.Told.{own_rises}
use Rattle.law.specs.Writes.{put}
use Rattle.law.proofs.Writes.{put_length, put_again}
use Rattle.refinement.specs.Stores.{all_pairs}
use Rattle.refinement.proofs.Own.{pairs_of_none, lookup_below, pairs_count, pairs_written}

-- ---- one place

fresh_lawful : (board : List ℕ) → OwnLawful (Some (fresh board))
fresh_lawful board = (omega (arith, pairs_count no_writes, ap length pairs_of_none), λ j l. refl)

-- a write where there is room for it
module _ (x : Place) (j v : ℕ) (l : j < 128) (h : OwnLawful (Some x)) where
  own_count_after : own_count (with_own x j v) ≡ length (put j v (all_pairs x.own))
  own_count_after = rw (← (pairs_count (with_own x j v).own)) (ap length (pairs_written x.own j v l))

  few_again : written x j ≡ true → own_count (with_own x j v) ≤ 8
  few_again e =
      let same = put_again 0 j v (all_pairs x.own) (own_rises x.own 0 0 128 (omega arith) (omega arith)) (ap is_some (lookup_below x.own j l) ∙ e) in
      omega (arith, own_count_after, pairs_count x.own, h.0)

  few_more : ltb (own_count x) 8 ≡ true → own_count (with_own x j v) ≤ 8
  few_more e = omega (arith, own_count_after, put_length j v (all_pairs x.own), pairs_count x.own, ltb-true (own_count x) 8 e)

  write_lawful_at : (written x j || ltb (own_count x) 8) ≡ true → OwnLawful (Some (with_own x j v))
  write_lawful_at r = (⊎_elim few_again few_more (or_cases (written x j) (ltb (own_count x) 8) r), λ i m. rw (ne_eqb i j (omega arith)) (h.1 i m))

-- what is overtaken does not touch the own writes
overtaken_lawful : (w : ℕ → Bool) (o : Option Place) → OwnLawful o → OwnLawful (overtaken_by w o)
overtaken_lawful w None h = h
overtaken_lawful w (Some x) h = h

-- one place changed among others
lawful_place : (l : List (Option Place)) (i : ℕ) (o : Option Place) → OwnLawful o → ((p : ℕ) → OwnLawful (get_or l p None)) → (p : ℕ) → OwnLawful (get_or (set l i o) p None)
lawful_place [] i o h f p = f p
lawful_place (x ∷ l) zero o h f zero = h
lawful_place (x ∷ l) zero o h f (suc p) = f (suc p)
lawful_place (x ∷ l) (suc i) o h f zero = f 0
lawful_place (x ∷ l) (suc i) o h f (suc p) = lawful_place l i o h (λ q. f (suc q)) p

-- ---- the calls

module _ (m : StoreModel) (ok : Lawful m) (p : ℕ) where
  with_lawful : (o : Option Place) → OwnLawful o → Lawful (with_place m p o)
  with_lawful o h =
      record {
        whole = ok.whole;
        least_places = omega (arith, length-set m.places p o, ok.least_places);
        most_places = omega (arith, length-set m.places p o, ok.most_places);
        least_most = ok.least_most;
        greatest_most = ok.greatest_most;
        within = ok.within;
        own = lawful_place m.places p o h ok.own;
      }

  pub begin_lawful : Lawful (begin_after m p)
  begin_lawful = go (cond (ltb p (length m.places)) (vacant (get_or m.places p None)) (Err NoPlace))
    where
      go : (r : Result (Unit {0}) StoreFault) → Lawful (leaves r (λ _. with_place m p (Some (fresh m.board))) m)
      go (Ok u) = with_lawful (Some (fresh m.board)) (fresh_lawful m.board)
      go (Err e) = ok

  pub abort_lawful : Lawful (abort_after m p)
  abort_lawful = go (cond (ltb p (length m.places)) (held (get_or m.places p None)) (Err NoPlace))
    where
      go : (r : Result Place StoreFault) → Lawful (leaves r (λ _. with_place m p None) m)
      go (Ok u) = with_lawful None tt
      go (Err e) = ok

  pub write_lawful : (j v : ℕ) → Lawful (write_after m p j v)
  write_lawful j v = go (ltb p (length m.places)) (get_or m.places p None) (ok.own p)
    where
      left : Result Place StoreFault → StoreModel
      left r = leaves r (λ pl. with_place m p (Some pl)) m

      roomy : Place → Bool
      roomy x = written x j || ltb (own_count x) 8

      in_room : (x : Place) → OwnLawful (Some x) → j < 128 → (d : Bool) → roomy x ≡ d → Lawful (left (cond d (Ok (with_own x j v)) (Err NinthObject)))
      in_room x h l true e = with_lawful (Some (with_own x j v)) (write_lawful_at x j v l h e)
      in_room x h l false e = ok

      at : (x : Place) → OwnLawful (Some x) → (c : Bool) → ltb j 128 ≡ c → Lawful (left (cond c (cond (roomy x) (Ok (with_own x j v)) (Err NinthObject)) (Err NoObject)))
      at x h true e = in_room x h (ltb-true j 128 e) (roomy x) refl
      at x h false e = ok

      go : (c : Bool) (o : Option Place) → OwnLawful o → Lawful (left (bind (cond c (held o) (Err NoPlace)) (write_at j v)))
      go true None h = ok
      go true (Some x) h = at x h (ltb j 128) refl
      go false o h = ok

spread_lawful : (m : StoreModel) → Lawful m → (own : ℕ → Option ℕ) → (m.commits ≡ m.most → ⊥) → Lawful (spread m own)
spread_lawful m ok own room =
    record {
      whole = length-played own m.board ∙ ok.whole;
      least_places = omega (arith, length-map m.places by, ok.least_places);
      most_places = omega (arith, length-map m.places by, ok.most_places);
      least_most = ok.least_most;
      greatest_most = ok.greatest_most;
      within = omega (arith, ok.within);
      own = λ p. rw (get_or-map by m.places p None) (overtaken_lawful (λ j. is_some (own j)) (get_or m.places p None) (ok.own p));
    }
  where
    by : Option Place → Option Place
    by = overtaken_by (λ j. is_some (own j))

pub commit_lawful : (m : StoreModel) → Lawful m → (p : ℕ) → Lawful (commit_after m p)
commit_lawful m ok p = go (cond (ltb p (length m.places)) (held (get_or m.places p None)) (Err NoPlace))
  where
    at : (x : Place) (a b c : Bool) → eqb m.commits m.most ≡ c → Lawful (cond a (with_place m p None) (cond b (with_place m p None) (cond c m (landed m p x))))
    at x true b c e = with_lawful m ok p None tt
    at x false true c e = with_lawful m ok p None tt
    at x false false true e = ok
    at x false false false e = with_lawful (spread m x.own) (spread_lawful m ok x.own (eqb-false m.commits m.most e)) p None tt

    go : (r : Result Place StoreFault) → Lawful (leaves r (commit_left m p) m)
    go (Ok x) = at x (eqb (own_count x) 0) (clashes x) (eqb m.commits m.most) refl
    go (Err e) = ok
