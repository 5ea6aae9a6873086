-- Each call of a store, told in functions of the object or in pairs, answers and leaves the same.
use Rattle.std.proofs.Common.{◌≡◌, ℕ, suc, ◌+◌, ◌<◌, Bool, true, false, cond, ◌||◌, eqb, ltb, List, [], ◌∷◌, map, length, get_or, set, is_some, Some, None, Ok, Err, Option, Result, sym, refl, ap, ◌∙◌, arith}
use mathlib.Core.Path.{fun_ext}
use lib.ListN.{length-map, get_or-map}
use Rattle.std.proofs.lemmas.List.{map-set}
use Rattle.std.proofs.lemmas.Bool.{ltb-true}
use Rattle.tickets.specs.Boards.{value}
use Rattle.tickets.specs.WriteSets.{Pairs, lookup, play, over}
use Rattle.stores.specs.declared.fault.StoreFault.{StoreFault}
use Rattle.stores.specs.declared.fault.StoreFault.TheVariants.{NoPlace, NoObject, NinthObject, Overtaken, Full}
use Rattle.stores.specs.Faults.{number_of}
use Rattle.stores.specs.Model as model
use Rattle.stores.specs.Model.{StoreModel, OwnLawful}
use Rattle.errands.specs.Own.{some_pairs, own_set, own_answer}
use Rattle.law.specs.Writes.{put, room}
use Rattle.law.specs.Store.{Place, Store, Done, Got, Owned, with_place, begin_in, read_in, write_in, own_in, overtake_in, overtake_all, commit_in, abort_in}
use Rattle.law.specs.Store.{store_begin, store_read, store_write, store_own, store_commit, store_abort}
use Rattle.law.specs.Store.Done.{fine, failed}
use Rattle.law.specs.Store.Got.{got, bad}
use Rattle.law.specs.Store.Owned.{owns, ownless}
use Rattle.refinement.specs.Stores.{all_pairs, law_place, law_store}
use Rattle.refinement.proofs.Own.{Within, same_else, pairs_of_none, lookup_below, pairs_count, pairs_empty, pairs_overtaken, pairs_written, pairs_played, lookup_own}

-- what comes of a call, by its answer and the store after it
abbrev pub done_of : Result (Unit {0}) StoreFault → Store → Done
done_of (Ok u) σ = fine σ
done_of (Err e) σ = failed (number_of e) σ

-- what is read
abbrev pub got_of : Result ℕ StoreFault → Got
got_of (Ok v) = got v
got_of (Err e) = bad (number_of e)

-- what is told of the own writes
abbrev pub owned_of : Result (Option Pairs) StoreFault → Owned
owned_of (Ok None) = owns []
owned_of (Ok (Some u)) = owns u
owned_of (Err e) = ownless (number_of e)

module _ (m : StoreModel) (p : ℕ) where
  abbrev σ : Store
  σ = law_store m

  -- a seat that is there or not
  abbrev seat : {A : Type 0} → Bool → Result A StoreFault → Result A StoreFault
  seat c r = cond c r (Err NoPlace)

  -- a place that is changed
  placed : (o : Option model.Place) → law_store (model.with_place m p o) ≡ with_place σ p (law_place o)
  placed o = ap (λ l. record { board = m.board; commits = m.commits; most = m.most; places = l }) (map-set law_place m.places p o)

  -- with its own writes put another way
  placed_as : (x : model.Place) (u : Pairs) → all_pairs x.own ≡ u →
      law_store (model.with_place m p (Some x)) ≡ with_place σ p (Some (record { snapshot = x.snapshot; own = u; overtaken = x.overtaken }))
  placed_as x u e = placed (Some x) ∙ ap (λ (v : Pairs). with_place σ p (Some (record { snapshot = x.snapshot; own = v; overtaken = x.overtaken }))) e

  pub same_begin : store_begin σ p ≡ done_of (model.begin_answer m p) (law_store (model.begin_after m p))
  same_begin = rw (length-map m.places law_place, get_or-map law_place m.places p None) (go (ltb p (length m.places)) (get_or m.places p None))
    where
      left : Result (Unit {0}) StoreFault → Store
      left r = law_store (model.leaves r (λ _. model.with_place m p (Some (model.fresh m.board))) m)

      go : (c : Bool) (o : Option model.Place) → cond c (begin_in (law_place o) σ p) (failed 6 σ) ≡ done_of (seat c (model.vacant o)) (left (seat c (model.vacant o)))
      go true None = ap fine (sym (placed_as (model.fresh m.board) [] pairs_of_none))
      go true (Some x) = refl
      go false o = refl

  pub same_abort : store_abort σ p ≡ done_of (model.abort_answer m p) (law_store (model.abort_after m p))
  same_abort = rw (length-map m.places law_place, get_or-map law_place m.places p None) (go (ltb p (length m.places)) (get_or m.places p None))
    where
      left : Result model.Place StoreFault → Store
      left r = law_store (model.leaves r (λ _. model.with_place m p None) m)

      go : (c : Bool) (o : Option model.Place) → cond c (abort_in (law_place o) σ p) (failed 6 σ) ≡ done_of (model.done (seat c (model.held o))) (left (seat c (model.held o)))
      go true None = refl
      go true (Some x) = ap fine (sym (placed None))
      go false o = refl

  pub same_read : (j : ℕ) → store_read σ p j ≡ got_of (model.read_answer m p j)
  same_read j = rw (length-map m.places law_place, get_or-map law_place m.places p None) (go (ltb p (length m.places)) (get_or m.places p None))
    where
      reads : (x : model.Place) → j < 128 → over (lookup (all_pairs x.own) j) (value x.snapshot j) ≡ model.or_else (x.own j) (value x.snapshot j)
      reads x l = ap (λ (o : Option ℕ). over o (value x.snapshot j)) (lookup_below x.own j l) ∙ sym (same_else (x.own j) (value x.snapshot j))

      at : (x : model.Place) (c : Bool) → ltb j 128 ≡ c →
          cond c (got (over (lookup (all_pairs x.own) j) (value x.snapshot j))) (bad 3) ≡ got_of (cond c (Ok (model.or_else (x.own j) (value x.snapshot j))) (Err NoObject))
      at x true e = ap got (reads x (ltb-true j 128 e))
      at x false e = refl

      go : (c : Bool) (o : Option model.Place) → cond c (read_in (law_place o) j) (bad 6) ≡ got_of (model.bind (seat c (model.held o)) (model.read_at j))
      go true None = refl
      go true (Some x) = at x (ltb j 128) refl
      go false o = refl

  pub same_own : store_own σ p ≡ owned_of (own_answer m p)
  same_own = rw (length-map m.places law_place, get_or-map law_place m.places p None) (go (ltb p (length m.places)) (get_or m.places p None))
    where
      all : (ps : Pairs) → owns ps ≡ owned_of (Ok (some_pairs ps))
      all [] = refl
      all (x ∷ ps) = refl

      go : (c : Bool) (o : Option model.Place) → cond c (own_in (law_place o)) (ownless 6) ≡ owned_of (model.bind (seat c (model.held o)) (λ pl. Ok (own_set pl)))
      go true None = refl
      go true (Some x) = all (all_pairs x.own)
      go false o = refl

  pub same_write : (j v : ℕ) → store_write σ p j v ≡ done_of (model.write_answer m p j v) (law_store (model.write_after m p j v))
  same_write j v = rw (length-map m.places law_place, get_or-map law_place m.places p None) (go (ltb p (length m.places)) (get_or m.places p None))
    where
      -- by what comes of the place
      came : Result model.Place StoreFault → Done
      came r = done_of (model.done r) (law_store (model.leaves r (λ pl. model.with_place m p (Some pl)) m))

      wrote : model.Place → Done
      wrote x = fine (with_place σ p (Some (record { snapshot = x.snapshot; own = put j v (all_pairs x.own); overtaken = x.overtaken })))

      roomy : model.Place → Bool
      roomy x = model.written x j || ltb (model.own_count x) 8

      same_room : (x : model.Place) → j < 128 → room j (all_pairs x.own) ≡ roomy x
      same_room x l = rw (lookup_below x.own j l, pairs_count x.own)

      in_room : (x : model.Place) → j < 128 → (d : Bool) → cond d (wrote x) (failed 30 σ) ≡ came (cond d (Ok (model.with_own x j v)) (Err NinthObject))
      in_room x l true = ap fine (sym (placed_as (model.with_own x j v) (put j v (all_pairs x.own)) (pairs_written x.own j v l)))
      in_room x l false = refl

      at : (x : model.Place) (c : Bool) → ltb j 128 ≡ c →
          cond c (cond (room j (all_pairs x.own)) (wrote x) (failed 30 σ)) (failed 3 σ) ≡ came (cond c (cond (roomy x) (Ok (model.with_own x j v)) (Err NinthObject)) (Err NoObject))
      at x true e = rw (same_room x (ltb-true j 128 e)) (in_room x (ltb-true j 128 e) (roomy x))
      at x false e = refl

      go : (c : Bool) (o : Option model.Place) → cond c (write_in (law_place o) σ p j v) (failed 6 σ) ≡ came (model.bind (seat c (model.held o)) (model.write_at j v))
      go true None = refl
      go true (Some x) = at x (ltb j 128) refl
      go false o = refl

-- ---- commit

-- the own writes of one place overtake the others
module _ (own : ℕ → Option ℕ) (within : Within own) where
  abbrev by : Option model.Place → Option model.Place
  by = model.overtaken_by (λ j. is_some (own j))

  overtaken_one : (o : Option model.Place) → overtake_in (all_pairs own) (law_place o) ≡ law_place (by o)
  overtaken_one None = refl
  overtaken_one (Some x) =
      ap (λ (f : ℕ → Bool). Some (record { snapshot = x.snapshot; own = all_pairs x.own; overtaken = f }))
      (fun_ext (λ j. ap (λ (o : Option ℕ). is_some o || x.overtaken j) (lookup_own own within j) ∙ swapped (is_some (own j)) (x.overtaken j)))
    where
      swapped : (a b : Bool) → (a || b) ≡ (b || a)
      swapped true true = refl
      swapped true false = refl
      swapped false true = refl
      swapped false false = refl

  overtaken_all : (l : List (Option model.Place)) → overtake_all (all_pairs own) (map law_place l) ≡ map law_place (map by l)
  overtaken_all [] = refl
  overtaken_all (o ∷ l) = let a = overtaken_one o in let b = overtaken_all l in cc

-- a store as every store is, as far as a commit leans on it
module _ (m : StoreModel) (p : ℕ) (whole : length m.board ≡ 128) where
  landed : (x : model.Place) → Store
  landed x =
      record {
        board = play (all_pairs x.own) m.board;
        commits = suc m.commits;
        most = m.most;
        places = set (overtake_all (all_pairs x.own) (map law_place m.places)) p None;
      }

  same_landed : (x : model.Place) → Within x.own → landed x ≡ law_store (model.landed m p x)
  unfolding landed
  same_landed x within =
      let board = sym (pairs_played x.own m.board whole) in
      let commits : suc m.commits ≡ m.commits + 1 = omega arith in
      let places = ap (λ (l : List (Option Place)). set l p None) (overtaken_all x.own within m.places) ∙ sym (map-set law_place (map (by x.own within) m.places) p None) in
      λ i. record { board = board i; commits = commits i; most = m.most; places = places i }

  pub same_commit : OwnLawful (get_or m.places p None) → store_commit (law_store m) p ≡ done_of (model.commit_answer m p) (law_store (model.commit_after m p))
  unfolding landed
  same_commit = λ own. rw (length-map m.places law_place, get_or-map law_place m.places p None) (go (ltb p (length m.places)) (get_or m.places p None) own)
    where
      freed : Store
      freed = with_place (law_store m) p None

      -- without own writes; overtaken; full; landed
      at : (x : model.Place) → Within x.own → (c d e : Bool) →
          cond c (fine freed) (cond d (failed 34 freed) (cond e (failed 35 (law_store m)) (fine (landed x))))
          ≡ done_of (cond c (Ok tt) (cond d (Err Overtaken) (cond e (Err Full) (Ok tt)))) (law_store (cond c (model.with_place m p None) (cond d (model.with_place m p None) (cond e m (model.landed m p x)))))
      at x within true d e = ap fine (sym (placed m p None))
      at x within false true e = ap (failed 34) (sym (placed m p None))
      at x within false false true = refl
      at x within false false false = ap fine (same_landed x within)

      go : (c : Bool) (o : Option model.Place) → OwnLawful o →
          cond c (commit_in (law_place o) (law_store m) p) (failed 6 (law_store m))
          ≡ done_of (model.bind (cond c (model.held o) (Err NoPlace)) (model.commit_at m)) (law_store (model.leaves (cond c (model.held o) (Err NoPlace)) (model.commit_left m p) m))
      go true None own = refl
      go true (Some x) own = rw (pairs_empty x.own, pairs_overtaken x.own x.overtaken) (at x own.1 (eqb (model.own_count x) 0) (model.clashes x) (eqb m.commits m.most))
      go false o own = refl
