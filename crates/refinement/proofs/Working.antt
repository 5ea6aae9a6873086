-- Read, write and give-up of the machine, beside the law's middleware.
use Rattle.std.proofs.Common.{◌≡◌, ℕ, ◌-◌, ◌<◌, ◌≤◌, Bool, true, false, eqb, ltb, leb, List, map, length, set, Some, Ok, Err, Result, unwrap_or, sym, refl, ap, ◌∙◌, subst, arith}
use Rattle.std.proofs.lemmas.List.{map-set, set-get_or}
use Rattle.std.proofs.lemmas.Bool.{both_ways}
use Rattle.calls.specs.declared.call.Call.TheVariants as call
use Rattle.tickets.specs.Boards.{top}
use Rattle.stores.specs.declared.fault.StoreFault.{StoreFault}
use Rattle.stores.specs.declared.fault.StoreFault.TheVariants as store
use Rattle.stores.specs.Model as model
use Rattle.stores.specs.Model.{StoreModel, Place}
use Rattle.banks.specs.Model as banks
use Rattle.banks.specs.Model.{changed, lifted}
use Rattle.ledger.specs.declared.transaction.Event.{Event}
use Rattle.ledger.specs.declared.transaction.Event.TheVariants.{Read, Write, GiveUp}
use Rattle.ledger.specs.declared.transaction.Transaction.{Transaction}
use Rattle.ledger.specs.declared.transaction.TransactionState.{TransactionState}
use Rattle.ledger.specs.declared.transaction.TransactionState.TheVariants.{Open, GivenUp}
use Rattle.ledger.specs.Transactions.{next, moved, nth_transaction}
use Rattle.errands.specs.Outcomes.{look, done}
use Rattle.errands.specs.Replay.{write_at}
use Rattle.machine.specs.declared.reason.Reason.{Reason}
use Rattle.machine.specs.declared.reason.Reason.TheVariants.{NoObject, AboveTop}
use Rattle.machine.specs.Machine.{Machine, Came, with_stores, told, bind, raised, taking, object_at}
use Rattle.machine.specs.Working.{read_by, value_at, write_raised, written}
use Rattle.law.specs.History as law
use Rattle.law.specs.History.{Answer}
use Rattle.law.specs.Plain as plain
use Rattle.law.specs.Store.Done.{failed}
use Rattle.law.specs.Store.{Store, store_read, store_write, store_abort}
use Rattle.law.specs.Opening.{no_store, store_at}
use Rattle.law.specs.World.{Phase, Entry, World, entry, home_of, place_of, world_plain, in_phase, with_bank, with_store, with_entry}
use Rattle.law.specs.WorldSteps as steps
use Rattle.law.specs.WorldSteps.{test, on_entry, read_answer, write_answer, world_step}
use Rattle.law.specs.Coupled.{Coupled}
use Rattle.law.proofs.Worlds.{transaction_is, transactions_length, replicas}
use Rattle.refinement.specs.Stores.{law_store, law_bank}
use Rattle.refinement.specs.Worlds.{phase_of, entry_of, world_of}
use Rattle.refinement.specs.Answers.{quiet}
use Rattle.refinement.specs.Steps.{came, machine_step}
use Rattle.refinement.proofs.Stores.{got_of, done_of, same_read, same_write, same_abort}
use Rattle.refinement.proofs.Lawful.{write_lawful, abort_lawful}
use Rattle.refinement.proofs.Banks.{as_many_stores, store_is, asked_is, bank_changed}
use Rattle.refinement.proofs.Simulation.{fit_changed, Fit, Matches, OpenOnly, look_bind, still, still_bind, unchanged, by_check, by_open, by_store, entry_is, as_many_entries}

-- only an open transaction takes these
reads_open : OpenOnly Read
reads_open = record { live = refl; pending = λ n. refl; committed = refl; aborted = refl; given_up = refl }

writes_open : OpenOnly Write
writes_open = record { live = refl; pending = λ n. refl; committed = refl; aborted = refl; given_up = refl }

gives_up_open : OpenOnly GiveUp
gives_up_open = record { live = refl; pending = λ n. refl; committed = refl; aborted = refl; given_up = refl }

module _ (b : Machine) (fit : Fit b) where
  abbrev w : World
  w = world_of b

  -- transaction t, and its home's store
  abbrev txn : ℕ → Transaction
  txn t = nth_transaction b.txns t

  abbrev store_of : ℕ → StoreModel
  store_of t = banks.store_at b.stores (txn t).home

  pub home_is : (t : ℕ) → home_of w t ≡ law_store (store_of t)
  home_is t = ap (λ (x : Entry). store_at w.bank x.home) (entry_is b fit t) ∙ store_is b.stores (txn t).home

  pub place_is : (t : ℕ) → place_of w t ≡ (txn t).place
  place_is t = ap (λ (x : Entry). x.place) (entry_is b fit t)

  -- t takes an event, which leads from its state to the state s
  pub entries_moved : (t : ℕ) (e : Event) (from s : TransactionState) → (txn t).state ≡ from → next from e ≡ Some s →
      map entry_of (set b.txns (t - 1) (moved (txn t) e)) ≡ set w.entries (t - 1) (in_phase (phase_of s) (entry w t))
  entries_moved t e from s was to =
      let x = txn t in
      let state : unwrap_or (next x.state e) x.state ≡ s = ap (λ q. unwrap_or (next q e) q) was ∙ ap (λ o. unwrap_or o from) to in
      let one : entry_of (moved x e) ≡ in_phase (phase_of s) (entry w t) = ap (λ q. record { home = x.home; s = x.s; place = x.place; phase = phase_of q }) state ∙ ap (in_phase (phase_of s)) (sym (entry_is b fit t)) in
      map-set entry_of b.txns (t - 1) (moved x e) ∙ ap (set w.entries (t - 1)) one

  -- the store of t's home comes to another
  bank_moved : (t : ℕ) (g : StoreModel → StoreModel) → law_bank (changed b.stores (txn t).home g) ≡ set w.bank (entry w t).home (law_store (g (store_of t)))
  bank_moved t g = bank_changed b.stores (txn t).home g ∙ ap (λ (y : Entry). set w.bank y.home (law_store (g (store_of t)))) (sym (entry_is b fit t))

  -- an open transaction ends, and its home's store comes to another
  pub settled : (t : ℕ) (e : Event) (s : TransactionState) (g : StoreModel → StoreModel) → (txn t).state ≡ Open → next Open e ≡ Some s →
      world_of (told (with_stores b (changed b.stores (txn t).home g)) t e) ≡ with_entry w t (phase_of s) (law_store (g (store_of t)))
  settled t e s g was to = λ i. record { start = b.start; sets = w.sets; applied = w.applied; entries = entries_moved t e Open s was to i; bank = bank_moved t g i }

  module _ (q : Coupled w) where
    -- a transaction is at home at one of the replicas
    pub home_within : (t : ℕ) → 1 ≤ t → t ≤ length b.txns → (txn t).home < length b.stores
    home_within t l m =
        let f = q.orderly.transactions t l (omega (arith, transactions_length w, as_many_entries b fit)) in
        let h : (plain.transaction (world_plain w) t).home ≡ (txn t).home = ap (λ (x : plain.Transaction). x.home) (transaction_is w t) ∙ ap (λ (x : Entry). x.home) (entry_is b fit t) in
        omega (arith, f.home, replicas w, as_many_stores b.stores)

    module _ (pick : List Bool → ℕ) (t : ℕ) where
      abbrev x : Transaction
      x = txn t

      abbrev m : StoreModel
      m = store_of t

      pub match_read : (j : ℕ) → Matches (world_step pick (call.Read t j) w) (machine_step (call.Read t j) b)
      unfolding world_step
      match_read j =
          subst (λ o. Matches (on_entry t w body) (came law.told o)) (sym (still_bind (taking b t Read) (λ y. bind (object_at j) (read_by b y)) b))
          (by_open b fit law.told t Read reads_open body (λ y. still (bind (object_at j) (read_by b y)) b) (λ l n was.
          subst (λ o. Matches body (came law.told o)) (sym (still_bind (object_at j) (read_by b x) b))
          (by_check b fit law.told (ltb j 128) (ltb j 128) 3 NoObject (Ok j) _ (λ o. still (read_by b x o) b) refl refl (λ _.
          rw (same, asked_is b.stores x.home (λ a. model.read_answer a x.place j) (home_within t l n)) (go (model.read_answer m x.place j))))))
        where
          body : steps.Result
          body = test (ltb j 128) 3 w (read_answer (store_read (home_of w t) (place_of w t) j) w)

          same : store_read (home_of w t) (place_of w t) j ≡ got_of (model.read_answer m x.place j)
          same = (λ i. store_read (home_is t i) (place_is t i) j) ∙ same_read m x.place j

          go : (a : Result ℕ StoreFault) → Matches (read_answer (got_of a) w) (came law.told (still (raised (lifted x.home a)) b))
          go (Ok v) = unchanged b fit (law.told v)
          go (Err e) = λ c. absurd (both_ways true c refl)

      pub match_give_up : Matches (world_step pick (call.GiveUp t) w) (machine_step (call.GiveUp t) b)
      unfolding world_step
      match_give_up =
          by_open b fit quiet t GiveUp gives_up_open _ _ (λ l n was.
          by_store b fit quiet x.home (entry w t).home (store_abort (home_of w t) (place_of w t)) (λ a. model.abort_answer a x.place) freed
          (λ σ. (law.done, with_entry w t Phase.given_up σ)) (λ _ c. done tt (told c t GiveUp)) (home_within t l n) same (λ _.
          record { answer = refl; world = settled t GiveUp GivenUp freed was refl; fit = record { opened = fit.opened; stores = after.stores; marks = fit.marks } }))
        where
          freed : StoreModel → StoreModel
          freed a = model.abort_after a x.place

          after : Fit (with_stores b (changed b.stores x.home freed))
          after = fit_changed b fit x.home freed (λ a ok. abort_lawful a ok x.place)

          same : store_abort (home_of w t) (place_of w t) ≡ done_of (model.abort_answer m x.place) (law_store (freed m))
          same = (λ i. store_abort (home_is t i) (place_is t i)) ∙ same_abort m x.place

      pub match_write : (j v : ℕ) → Matches (world_step pick (call.Write t j v) w) (machine_step (call.Write t j v) b)
      unfolding world_step
      match_write j v =
          subst (λ o. Matches (on_entry t w object) (came quiet o)) (sym (look_bind (taking b t Write) checks b ends))
          (by_open b fit quiet t Write writes_open object (λ y. look (checks y) b ends) (λ l n was.
          subst (λ o. Matches object (came quiet o)) (sym (look_bind (object_at j) (λ _. last_check x) b ends))
          (by_check b fit quiet (ltb j 128) (ltb j 128) 3 NoObject (Ok j) value (λ _. look (last_check x) b ends) refl refl (λ _.
          subst (λ o. Matches value (came quiet o)) (sym (look_bind (value_at j v) (λ _. Ok x) b ends))
          (by_check b fit quiet (leb v (top j)) (leb v (top j)) 5 AboveTop (Ok v) stored (λ _. ends x) refl refl (λ _.
          rw (same, asked_is b.stores x.home (λ a. model.write_answer a x.place j v) (home_within t l n)) (go (model.write_place m x.place j v) refl)))))))
        where
          -- the machine's checks, and its call of the store
          last_check : Transaction → Result Transaction Reason
          last_check y = bind (value_at j v) (λ _. Ok y)

          checks : Transaction → Result Transaction Reason
          checks y = bind (object_at j) (λ _. last_check y)

          ends : Transaction → Came (Unit {0})
          ends y = written b (write_at y.home y.place (j, v) b.stores)

          -- the law's
          stored : steps.Result
          stored = write_answer (store_write (home_of w t) (place_of w t) j v) w (entry w t).home

          value : steps.Result
          value = test (leb v (top j)) 5 w stored

          object : steps.Result
          object = test (ltb j 128) 3 w value

          g : StoreModel → StoreModel
          g a = model.write_after a x.place j v

          same : store_write (home_of w t) (place_of w t) j v ≡ done_of (model.write_answer m x.place j v) (law_store (g m))
          same = (λ i. store_write (home_is t i) (place_is t i) j v) ∙ same_write m x.place j v

          after : Machine
          after = with_stores b (changed b.stores x.home g)

          fit_after : Fit after
          fit_after = fit_changed b fit x.home g (λ a ok. write_lawful a ok x.place j v)

          -- the store, by what comes of the place
          left : Result Place StoreFault → StoreModel
          left r = model.leaves r (λ pl. model.with_place m x.place (Some pl)) m

          stores_as : (σ : StoreModel) → g m ≡ σ → world_of after ≡ with_store w (entry w t).home (law_store σ)
          stores_as σ e = ap (with_bank w) (bank_moved t g ∙ ap (λ a. set w.bank (entry w t).home (law_store a)) e)

          -- a refused write changes nothing
          kept : g m ≡ m → world_of after ≡ w
          kept e = stores_as m e ∙ ap (with_bank w) (ap (set w.bank (entry w t).home) (sym (home_is t)) ∙ set-get_or w.bank (entry w t).home no_store)

          fails : (n : ℕ) (σ : Store) (r : Answer × Machine) → eqb n 30 ≡ false → Matches (write_answer (failed n σ) w (entry w t).home) r
          fails n σ r e = rw e (λ c. absurd (both_ways true c refl))

          go : (r : Result Place StoreFault) → model.write_place m x.place j v ≡ r →
              Matches (write_answer (done_of (model.done r) (law_store (left r))) w (entry w t).home) (came quiet (record { answer = write_raised (lifted x.home (model.done r)); after = after }))
          go (Ok pl) e = λ _. record { answer = refl; world = stores_as (model.with_place m x.place (Some pl)) (ap left e); fit = fit_after }
          go (Err store.NinthObject) e = λ _. record { answer = refl; world = kept (ap left e); fit = fit_after }
          go (Err store.NoObject) e = fails 3 _ _ refl
          go (Err store.NoPlace) e = fails 6 _ _ refl
          go (Err store.Overtaken) e = fails 34 _ _ refl
          go (Err store.Full) e = fails 35 _ _ refl
          go (Err store.PlaceOpen) e = fails 36 _ _ refl
          go (Err store.PlaceClosed) e = fails 37 _ _ refl
