-- Commit of the machine, beside the law's middleware.
use Rattle.std.proofs.Common.{◌≡◌, ℕ, zero, suc, ◌+◌, ◌-◌, ◌<◌, Bool, true, false, ltb, List, [], ◌∷◌, ◌++◌, length, set, replicate, Ok, Err, Option, Result, sym, refl, ap, ◌∙◌, subst, arith}
use Rattle.std.proofs.lemmas.List.{map_push}
use Rattle.std.proofs.lemmas.Bool.{both_ways}
use Rattle.calls.specs.declared.call.Call.TheVariants as call
use Rattle.tickets.specs.WriteSets.{Pairs}
use Rattle.stores.specs.declared.fault.StoreFault.{StoreFault}
use Rattle.stores.specs.Model as model
use Rattle.stores.specs.Model.{StoreModel, Place}
use Rattle.banks.specs.Model as banks
use Rattle.banks.specs.Model.{changed, lifted}
use Rattle.ledger.specs.declared.verdict.Verdict.TheVariants.{ReadOnly, Numbered, Clash}
use Rattle.ledger.specs.declared.transaction.Event.TheVariants.{Commit}
use Rattle.ledger.specs.declared.transaction.Transaction.{Transaction}
use Rattle.ledger.specs.declared.transaction.TransactionState.TheVariants.{Open, Pending, Committed, Aborted}
use Rattle.ledger.specs.Words.{some_number}
use Rattle.ledger.specs.Transactions.{nth_transaction}
use Rattle.ledger.specs.Sets.{SetModel, lowest_clash}
use Rattle.errands.specs.Outcomes.{look}
use Rattle.errands.specs.Own.{some_pairs, own_set, own_answer}
use Rattle.machine.specs.declared.reason.Reason.TheVariants.{WriteSetsGiven}
use Rattle.machine.specs.Machine.{Machine, with_stores, raised, told}
use Rattle.machine.specs.Committing.{own_of, judged, end_reading, end_clashing, numbered, register, by_clash, by_own}
use Rattle.law.specs.History as law
use Rattle.law.specs.Numbers.{lowest}
use Rattle.law.specs.Transactions.{clashes}
use Rattle.law.specs.Store.{store_own, store_commit, store_abort}
use Rattle.law.specs.World.{Phase, Entry, World, entry, home_of, place_of, in_phase, with_entry, with_number}
use Rattle.law.specs.WorldSteps.{test, on_fine, on_owned, world_verdict, world_commit, world_step}
use Rattle.law.specs.Coupled.{Coupled}
use Rattle.refinement.specs.Stores.{all_pairs, law_store}
use Rattle.refinement.specs.Worlds.{numbered_of, world_of}
use Rattle.refinement.specs.Answers.{verdict_listed}
use Rattle.refinement.specs.Steps.{came, machine_step}
use Rattle.refinement.proofs.Stores.{owned_of, done_of, same_own, same_commit, same_abort}
use Rattle.refinement.proofs.Lawful.{commit_lawful, abort_lawful}
use Rattle.refinement.proofs.Sets.{as_many_sets, lowest_clash_is, more_keeps_applied, more_keeps_eight}
use Rattle.refinement.proofs.Banks.{asked_is}
use Rattle.refinement.proofs.Simulation.{Fit, Matches, fit_changed, OpenOnly, by_choice, by_open, by_store, entry_is}
use Rattle.refinement.proofs.Working.{home_is, place_is, entries_moved, settled, home_within}

commits_open : OpenOnly (Commit ReadOnly)
commits_open = record { live = refl; pending = λ n. refl; committed = refl; aborted = refl; given_up = refl }

module _ (b : Machine) (fit : Fit b) (q : Coupled (world_of b)) (t : ℕ) where
  abbrev w : World
  w = world_of b

  abbrev x : Transaction
  x = nth_transaction b.txns t

  abbrev m : StoreModel
  m = banks.store_at b.stores x.home

  module _ (l : x.home < length b.stores) (was : x.state ≡ Open) where
    -- nothing was written
    ends_reading : Matches (on_fine (store_commit (home_of w t) (place_of w t)) w (entry w t).home (λ σ. (law.read_only, with_entry w t Phase.committed σ))) (came verdict_listed (end_reading b t x))
    ends_reading =
        by_store b fit verdict_listed x.home (entry w t).home (store_commit (home_of w t) (place_of w t)) (λ a. model.commit_answer a x.place) landed
        (λ σ. (law.read_only, with_entry w t Phase.committed σ)) (λ _ c. judged c t ReadOnly) l same (λ _.
        record { answer = refl; world = settled b fit t (Commit ReadOnly) Committed landed was refl; fit = record { opened = fit.opened; stores = after.stores; marks = fit.marks } })
      where
        landed : StoreModel → StoreModel
        landed a = model.commit_after a x.place

        after : Fit (with_stores b (changed b.stores x.home landed))
        after = fit_changed b fit x.home landed (λ a ok. commit_lawful a ok x.place)

        same : store_commit (home_of w t) (place_of w t) ≡ done_of (model.commit_answer m x.place) (law_store (landed m))
        same = let ok = fit.stores x.home l in (λ i. store_commit (home_is b fit t i) (place_is b fit t i)) ∙ same_commit m x.place ok.whole (ok.own x.place)

    -- number n stands in the way
    ends_clashing : (n : ℕ) → Matches (on_fine (store_abort (home_of w t) (place_of w t)) w (entry w t).home (λ σ. (law.aborts n, with_entry w t Phase.aborted σ))) (came verdict_listed (end_clashing b t x n))
    ends_clashing n =
        by_store b fit verdict_listed x.home (entry w t).home (store_abort (home_of w t) (place_of w t)) (λ a. model.abort_answer a x.place) freed
        (λ σ. (law.aborts n, with_entry w t Phase.aborted σ)) (λ _ c. judged c t (Clash n)) l same (λ _.
        record { answer = refl; world = settled b fit t (Commit (Clash n)) Aborted freed was refl; fit = record { opened = fit.opened; stores = after.stores; marks = fit.marks } })
      where
        freed : StoreModel → StoreModel
        freed a = model.abort_after a x.place

        after : Fit (with_stores b (changed b.stores x.home freed))
        after = fit_changed b fit x.home freed (λ a ok. abort_lawful a ok x.place)

        same : store_abort (home_of w t) (place_of w t) ≡ done_of (model.abort_answer m x.place) (law_store (freed m))
        same = (λ i. store_abort (home_is b fit t i) (place_is b fit t i)) ∙ same_abort m x.place

    module _ (u : Pairs) where
      -- the write set u gets the next number
      abbrev new : SetModel
      new = record { home = x.home; s = x.s; transaction = t; pairs = u; applied = replicate 8 false }

      abbrev next : ℕ
      next = length b.sets + 1

      next_is : next ≡ suc (length w.sets)
      next_is = omega (arith, as_many_sets b.sets)

      registered : world_of (told (numbered b t x u) t (Commit (Numbered next))) ≡ with_number w t u
      registered =
          let sets = map_push numbered_of b.sets new ∙ ap (λ (y : Entry). w.sets ++ record { who = t; home = y.home; s = y.s; pairs = u } ∷ []) (sym (entry_is b fit t)) in
          let entries = entries_moved b fit t (Commit (Numbered next)) Open (Pending next) was refl ∙ ap (λ n. set w.entries (t - 1) (in_phase (Phase.pending n) (entry w t))) next_is in
          λ i. record { start = w.start; sets = sets i; applied = more_keeps_applied b.sets new refl i; entries = entries i; bank = w.bank }

      registers : Matches (test (ltb (length w.sets) 256) 31 w (law.told (suc (length w.sets)), with_number w t u)) (came verdict_listed (register b t x u))
      registers =
          by_choice b fit verdict_listed (ltb (length w.sets) 256) (ltb (length b.sets) 256) 31 WriteSetsGiven (judged (numbered b t x u) t (Numbered next))
          (law.told (suc (length w.sets)), with_number w t u) (ap (λ n. ltb n 256) (as_many_sets b.sets)) refl (λ _.
          record { answer = ap law.told next_is; world = registered; fit = record { opened = fit.opened; stores = fit.stores; marks = more_keeps_eight b.sets new refl fit.marks } })

      -- by the lowest clash
      judges : (r : ℕ) → Matches (world_verdict r t u w) (came verdict_listed (by_clash b t x u (some_number r)))
      judges zero = registers
      judges (suc n) = ends_clashing (suc n)

      abbrev lowest_above : ℕ → ℕ
      lowest_above s = lowest (clashes w.sets s u) (length w.sets)

      validates : Matches (world_verdict (lowest_above (entry w t).s) t u w) (came verdict_listed (by_clash b t x u (lowest_clash b.sets x.s u)))
      validates =
          rw (lowest_clash_is b.sets x.s u)
          (subst (λ (y : Entry). Matches (world_verdict (lowest_above y.s) t u w) (came verdict_listed (by_clash b t x u (some_number (lowest_above x.s))))) (sym (entry_is b fit t))
          (judges (lowest_above x.s)))

    -- by the own writes, if any
    asks : Matches (on_owned (store_own (home_of w t) (place_of w t)) w (λ u. world_commit t u w)) (came verdict_listed (look (own_of b x) b (by_own b t x)))
    asks = rw (same, asked_is b.stores x.home (λ a. own_answer a x.place) l) (go (model.place_at m x.place))
      where
        same : store_own (home_of w t) (place_of w t) ≡ owned_of (own_answer m x.place)
        same = (λ i. store_own (home_is b fit t i) (place_is b fit t i)) ∙ same_own m x.place

        told_of : Result Place StoreFault → Result (Option Pairs) StoreFault
        told_of r = model.bind r (λ pl. Ok (own_set pl))

        own : (u : Pairs) → Matches (on_owned (owned_of (Ok (some_pairs u))) w (λ u. world_commit t u w)) (came verdict_listed (by_own b t x (some_pairs u)))
        own [] = ends_reading
        own (y ∷ u) = validates (y ∷ u)

        go : (r : Result Place StoreFault) →
            Matches (on_owned (owned_of (told_of r)) w (λ u. world_commit t u w)) (came verdict_listed (look (raised (lifted x.home (told_of r))) b (by_own b t x)))
        go (Ok pl) = own (all_pairs pl.own)
        go (Err e) = λ c. absurd (both_ways true c refl)

  pub match_commit : (pick : List Bool → ℕ) → Matches (world_step pick (call.Commit t) w) (machine_step (call.Commit t) b)
  unfolding world_step
  match_commit pick = by_open b fit verdict_listed t (Commit ReadOnly) commits_open _ _ (λ l n was. asks (home_within b fit q t l n) was)
