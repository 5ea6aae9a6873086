-- Begin of the machine, beside the law's middleware.
use Rattle.std.proofs.Common.{◌≡◌, ℕ, suc, ◌+◌, ◌<◌, ◌≤◌, cond, ◌&&◌, eqb, ltb, [], ◌∷◌, ◌++◌, map, length, Ok, Err, Result, sym, refl, ap, ◌∙◌, subst, arith}
use Rattle.std.proofs.lemmas.List.{map_push}
use Rattle.calls.specs.declared.call.Call.TheVariants as call
use Rattle.stores.specs.Model as model
use Rattle.stores.specs.Model.{StoreModel}
use Rattle.banks.specs.Model as banks
use Rattle.banks.specs.Model.{changed}
use Rattle.ledger.specs.declared.transaction.Transaction.{Transaction}
use Rattle.ledger.specs.declared.transaction.TransactionState.{TransactionState}
use Rattle.ledger.specs.declared.transaction.TransactionState.TheVariants.{Open, Pending, Committed, Aborted, GivenUp}
use Rattle.ledger.specs.Transactions.{is_busy, busy_at, busy_count}
use Rattle.errands.specs.Outcomes.{look, step, done}
use Rattle.errands.specs.Places.{vacant}
use Rattle.errands.specs.Replay.{begin_at}
use Rattle.machine.specs.declared.reason.Reason.{Reason}
use Rattle.machine.specs.declared.reason.Reason.TheVariants.{Holes, Busy, TransactionsGiven}
use Rattle.machine.specs.Machine.{Machine, Came, with_stores, with_txns, bind, through, replica_at}
use Rattle.machine.specs.Beginning.{if_whole, snapshot_at, room_at}
use Rattle.law.specs.History as law
use Rattle.law.specs.Numbers.{count, whole}
use Rattle.law.specs.Store.{Store, is_open, store_begin}
use Rattle.law.specs.Opening.{store_at}
use Rattle.law.specs.World.{Phase, World, is_working, working_at, working, picked, with_begin}
use Rattle.law.specs.WorldSteps as steps
use Rattle.law.specs.WorldSteps.{test, on_fine, world_step}
use Rattle.refinement.specs.Stores.{law_store}
use Rattle.refinement.specs.Worlds.{phase_of, entry_of, world_of}
use Rattle.refinement.specs.Steps.{came, machine_step}
use Rattle.refinement.proofs.Stores.{done_of, same_begin}
use Rattle.refinement.proofs.Lawful.{begin_lawful}
use Rattle.refinement.proofs.Numbers.{same_tally}
use Rattle.refinement.proofs.Sets.{progress_is}
use Rattle.refinement.proofs.Banks.{store_is, bank_changed}
use Rattle.refinement.proofs.Places.{first_of_sixteen, vacant_is}
use Rattle.refinement.proofs.Simulation.{Fit, Matches, fit_changed, look_bind, by_check, by_replica, by_store, as_many_entries}

same_busy : (q : TransactionState) → is_busy q ≡ is_working (phase_of q)
same_busy Open = refl
same_busy (Pending n) = refl
same_busy Committed = refl
same_busy Aborted = refl
same_busy GivenUp = refl

module _ (b : Machine) (fit : Fit b) (eight : length b.stores ≤ 8) where
  abbrev w : World
  w = world_of b

  working_is : (k : ℕ) → working k w.entries ≡ busy_count b.txns k
  working_is k = sym (same_tally entry_of (busy_at k) (working_at k) (λ x. ap (λ c. eqb x.home k && c) (same_busy x.state)) b.txns)

  -- the number of the snapshot
  abbrev seen : ℕ → ℕ
  seen k = count (w.applied k) (length w.sets)

  snapshot_is : (k : ℕ) → snapshot_at b k ≡ cond (whole (w.applied k) (length w.sets)) (Ok (seen k)) (Err Holes)
  snapshot_is k = ap if_whole (progress_is b.sets k)

  module _ (k : ℕ) (l : k < length b.stores) where
    abbrev m : StoreModel
    m = banks.store_at b.stores k

    abbrev p : ℕ
    p = vacant b.stores k

    -- the place that both take
    pub same_place : picked first_of_sixteen (store_at w.bank k) ≡ p
    same_place = ap (λ (σ : Store). first_of_sixteen (map is_open σ.places)) (store_is b.stores k) ∙ sym (vacant_is b.stores k l (fit.stores k l).least_places)

    abbrev starts : Transaction
    starts = record { home = k; place = p; s = seen k; state = Open }

    abbrev g : StoreModel → StoreModel
    g a = model.begin_after a p

    same : store_begin (store_at w.bank k) (picked first_of_sixteen (store_at w.bank k)) ≡ done_of (model.begin_answer m p) (law_store (g m))
    same = (λ i. store_begin (store_is b.stores k i) (same_place i)) ∙ same_begin m p

    begun : world_of (with_txns (with_stores b (changed b.stores k g)) (b.txns ++ starts ∷ [])) ≡ with_begin first_of_sixteen w k (law_store (g m))
    begun =
        let entries = map_push entry_of b.txns starts ∙ ap (λ i. w.entries ++ record { home = k; s = seen k; place = i; phase = Phase.live } ∷ []) (sym same_place) in
        λ i. record { start = w.start; sets = w.sets; applied = w.applied; entries = entries i; bank = bank_changed b.stores k g i }

  -- the law's middleware and the machine, once the checks are passed
  abbrev law_begins : ℕ → steps.Result
  law_begins k = on_fine (store_begin (store_at w.bank k) (picked first_of_sixteen (store_at w.bank k))) w k (λ σ. (law.told (suc (length w.entries)), with_begin first_of_sixteen w k σ))

  abbrev ends : Transaction → Came ℕ
  ends x = step (through b (begin_at x.home x.place b.stores)) (λ _ c. done (length c.txns + 1) (with_txns c (c.txns ++ x ∷ [])))

  begins : (k : ℕ) (l : k < length b.stores) → Matches (law_begins k) (came law.told (ends (starts k l)))
  begins k l =
      by_store b fit law.told k k (store_begin (store_at w.bank k) (picked first_of_sixteen (store_at w.bank k))) (λ a. model.begin_answer a (p k l)) (g k l)
      (λ σ. (law.told (suc (length w.entries)), with_begin first_of_sixteen w k σ)) (λ _ c. done (length c.txns + 1) (with_txns c (c.txns ++ starts k l ∷ []))) l (same k l) (λ _.
      record { answer = ap law.told (omega (arith, as_many_entries b fit)); world = begun k l; fit = record { opened = fit.opened; stores = after.stores; marks = fit.marks } })
    where
      after : Fit (with_stores b (changed b.stores k (g k l)))
      after = fit_changed b fit k (g k l) (λ a ok. begin_lawful a ok (p k l))

  pub match_begin : (k : ℕ) → Matches (world_step first_of_sixteen (call.Begin k) w) (machine_step (call.Begin k) b)
  unfolding world_step
  match_begin k =
      subst (λ o. Matches (world_step first_of_sixteen (call.Begin k) w) (came law.told o)) (sym (look_bind (replica_at b k) snapshot b ends))
      (by_replica b fit eight law.told k holes (λ h. look (snapshot h) b ends) (λ l.
      subst (λ o. Matches holes (came law.told o)) (sym (look_bind (snapshot_at b k) (room k) b ends))
      (subst (λ a. Matches holes (came law.told (look a b (λ s. look (room k s) b ends)))) (sym (snapshot_is k))
      (by_check b fit law.told (whole (w.applied k) (length w.sets)) (whole (w.applied k) (length w.sets)) 26 Holes (Ok (seen k)) busy (λ s. look (room k s) b ends) refl refl (λ _.
      subst (λ o. Matches busy (came law.told o)) (sym (look_bind (room_at b k) (λ _. Ok (starts k l)) b ends))
      (by_check b fit law.told (ltb (working k w.entries) 15) (ltb (busy_count b.txns k) 15) 27 Busy (cond (ltb (length b.txns) 512) (Ok tt) (Err TransactionsGiven)) given (λ _. ends (starts k l))
      (ap (λ n. ltb n 15) (working_is k)) refl (λ _.
      by_check b fit law.told (ltb (length w.entries) 512) (ltb (length b.txns) 512) 28 TransactionsGiven (Ok tt) (law_begins k) (λ _. ends (starts k l))
      (ap (λ n. ltb n 512) (as_many_entries b fit)) refl (λ _. begins k l))))))))
    where
      -- the machine's checks
      room : ℕ → ℕ → Result Transaction Reason
      room h s = bind (room_at b h) (λ _. Ok (record { home = h; place = vacant b.stores h; s = s; state = Open }))

      snapshot : ℕ → Result Transaction Reason
      snapshot h = bind (snapshot_at b h) (room h)

      -- the law's
      given : steps.Result
      given = test (ltb (length w.entries) 512) 28 w (law_begins k)

      busy : steps.Result
      busy = test (ltb (working k w.entries) 15) 27 w given

      holes : steps.Result
      holes = test (whole (w.applied k) (length w.sets)) 26 w busy
