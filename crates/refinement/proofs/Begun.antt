-- The place that a transaction gets was not open.
use Rattle.std.proofs.Common.{◌≡◌, ℕ, ◌+◌, ◌-◌, Bool, true, false, cond, ltb, [], ◌∷◌, ◌++◌, length, get_or, is_some, Some, None, Ok, Err, Option, Result, sym, refl, ap, ◌∙◌, arith}
use Rattle.std.proofs.lemmas.List.{get_or_push}
use Rattle.stores.specs.declared.fault.StoreFault.{StoreFault}
use Rattle.stores.specs.declared.fault.StoreFault.TheVariants.{NoPlace}
use Rattle.stores.specs.Model.{StoreModel, Place, vacant, begin_answer, begin_after, open_answer}
use Rattle.banks.specs.declared.fault.BankFault.TheVariants as bank
use Rattle.banks.specs.Model.{store_at, asked, changed, lifted, told_count}
use Rattle.ledger.specs.declared.transaction.Transaction.{Transaction}
use Rattle.ledger.specs.declared.transaction.TransactionState.TheVariants.{Open}
use Rattle.ledger.specs.Transactions.{nth_transaction, no_transaction}
use Rattle.errands.specs.Outcomes.{look, go_on, step, done}
use Rattle.errands.specs.Places as free
use Rattle.errands.specs.Replay.{begin_at}
use Rattle.machine.specs.declared.reason.Reason.{Reason}
use Rattle.machine.specs.declared.reason.Reason.TheVariants.{NoReplica, NotOpened}
use Rattle.machine.specs.Machine.{Machine, Came, bind, through, raised, with_stores, with_txns, replica_at}
use Rattle.machine.specs.Beginning.{starting, snapshot_at, room_at}
use Rattle.refinement.specs.Places.{PlaceWasShut, EveryPlace}

-- a place that a store begins at was not open
begins_shut : (m : StoreModel) (p : ℕ) → begin_answer m p ≡ Ok tt → open_answer m p ≡ Ok false
begins_shut m p = go (ltb p (length m.places)) (get_or m.places p None)
  where
    go : (c : Bool) (o : Option Place) → cond c (vacant o) (Err NoPlace) ≡ Ok tt → cond c (Ok (is_some o)) (Err NoPlace) ≡ Ok false
    go true None e = refl
    go true (Some x) e = absurd (let z : ◌≡◌ {A = ℕ} 0 1 = cc in omega arith)
    go false o e = absurd (let z : ◌≡◌ {A = ℕ} 0 1 = cc in omega arith)

-- what follows an answer that is not refused
bound : {A C : Type 0} (r : Result A Reason) (g : A → Result C Reason) (c : C) → bind r g ≡ Ok c → (a : A) × (r ≡ Ok a) × (g a ≡ Ok c)
bound (Ok a) g c e = (a, refl, e)
bound (Err x) g c e = absurd (let z : ◌≡◌ {A = ℕ} 0 1 = cc in omega arith)

module _ (b : Machine) (k : ℕ) where
  starts_in : ℕ → ℕ → Unit {0} → Result Transaction Reason
  starts_in h s u = Ok (record { home = h; place = free.vacant b.stores h; s = s; state = Open })

  -- the transaction that begins is at home at k
  starts_home : (x : Transaction) → starting b k ≡ Ok x → x.home ≡ k
  unfolding starts_in
  starts_home x e =
      let r = bound (replica_at b k) (λ h. bind (snapshot_at b h) (λ s. bind (room_at b h) (starts_in h s))) x e in
      let s = bound (snapshot_at b r.0) (λ s. bind (room_at b r.0) (starts_in r.0 s)) x r.2 in
      let u = bound (room_at b r.0) (starts_in r.0 s.0) x s.2 in
      let home : r.0 ≡ x.home = cc in
      sym home ∙ at_k b.opened (ltb k (told_count b.stores)) r.0 r.1
    where
      at_k : (c d : Bool) (h : ℕ) → cond c (cond d (Ok k) (Err NoReplica)) (Err NotOpened) ≡ Ok h → h ≡ k
      at_k true true h i = cc
      at_k true false h i = absurd (let z : ◌≡◌ {A = ℕ} 0 1 = cc in omega arith)
      at_k false d h i = absurd (let z : ◌≡◌ {A = ℕ} 0 1 = cc in omega arith)

  -- a begin that a store of the bank takes
  taken : (p h : ℕ) → raised (asked b.stores h (λ m. begin_answer m p)) ≡ Ok tt → begin_answer (store_at b.stores h) p ≡ Ok tt
  unfolding asked
  taken p h = go (ltb h (length b.stores)) (begin_answer (store_at b.stores h) p)
    where
      go : (c : Bool) (a : Result (Unit {0}) StoreFault) → raised (cond c (lifted h a) (Err (bank.NoReplica h))) ≡ Ok tt → a ≡ Ok tt
      go true (Ok u) e = refl
      go true (Err x) e = absurd (let z : ◌≡◌ {A = ℕ} 0 1 = cc in omega arith)
      go false a e = absurd (let z : ◌≡◌ {A = ℕ} 0 1 = cc in omega arith)

  -- the transaction gets the next number
  abbrev numbered : Transaction → Unit {0} → Machine → Came ℕ
  numbered x u c = done (length c.txns + 1) (with_txns c (c.txns ++ x ∷ []))

  abbrev ends : Transaction → Came ℕ
  ends x = step (through b (begin_at x.home x.place b.stores)) (numbered x)

  was_shut : (t : ℕ) (r : Result Transaction Reason) → starting b k ≡ r → (look r b ends).answer ≡ Ok t → PlaceWasShut b k t (look r b ends).after
  was_shut t (Err x) i e = absurd (let z : ◌≡◌ {A = ℕ} 0 1 = cc in omega arith)
  was_shut t (Ok x) i e = begun (raised (asked b.stores x.home (λ m. begin_answer m x.place))) refl e
    where
      home : x.home ≡ k
      home = starts_home x i

      after : Machine
      after = with_stores b (changed b.stores x.home (λ m. begin_after m x.place))

      begun : (a : Result (Unit {0}) Reason) → raised (asked b.stores x.home (λ m. begin_answer m x.place)) ≡ a →
          (go_on a after (numbered x)).answer ≡ Ok t → PlaceWasShut b k t (go_on a after (numbered x)).after
      begun (Err y) j e = absurd (let z : ◌≡◌ {A = ℕ} 0 1 = cc in omega arith)
      begun (Ok u) j e =
          let n : length b.txns + 1 ≡ t = cc in
          let is : nth_transaction (b.txns ++ x ∷ []) t ≡ x = get_or_push b.txns x no_transaction (t - 1) (omega arith) in
          record {
            home = ap (λ (y : Transaction). y.home) is ∙ home;
            shut = (λ o. open_answer (store_at b.stores (sym home o)) (is o).place) ∙ begins_shut (store_at b.stores x.home) x.place (taken x.place x.home j);
          }

pub every_place : EveryPlace
every_place b k t e = was_shut b k t (starting b k) refl e
