-- The questions of the machine, beside the law's middleware.
use Rattle.std.proofs.Common.{◌≡◌, ℕ, ◌≤◌, Bool, ltb, List, ◌∷◌, length, Ok, Err, Result, sym, refl, ap, subst}
use Rattle.calls.specs.declared.call.Call.TheVariants as call
use Rattle.tickets.specs.Boards.{value}
use Rattle.stores.specs.Model as model
use Rattle.banks.specs.Model.{asked}
use Rattle.ledger.specs.Words.{up_to}
use Rattle.ledger.specs.Sets.{SetModel, nth_set, progress_at}
use Rattle.errands.specs.Outcomes.{look}
use Rattle.machine.specs.declared.reason.Reason.{Reason}
use Rattle.machine.specs.declared.reason.Reason.TheVariants.{NoObject, NoWriteSet}
use Rattle.machine.specs.Machine.{Machine, bind, raised, replica_at, transaction_at, object_at, set_at}
use Rattle.law.specs.History as law
use Rattle.law.specs.Plain.{Numbered, numbered}
use Rattle.law.specs.Steps.{set_values}
use Rattle.law.specs.Store.{Store}
use Rattle.law.specs.Opening.{store_at}
use Rattle.law.specs.World.{Entry, World, entry}
use Rattle.law.specs.WorldSteps as steps
use Rattle.law.specs.WorldSteps.{test, phase_values, world_step}
use Rattle.refinement.specs.Worlds.{world_of}
use Rattle.refinement.specs.Answers.{state_listed, set_listed, progress_listed}
use Rattle.refinement.specs.Steps.{came, machine_step}
use Rattle.refinement.proofs.Sets.{as_many_sets, set_is, progress_is}
use Rattle.refinement.proofs.Banks.{store_is, asked_is}
use Rattle.refinement.proofs.Simulation.{Fit, Matches, still, still_bind, by_check, by_replica, by_transaction, if_opened_is, entry_is}

module _ (b : Machine) (fit : Fit b) (eight : length b.stores ≤ 8) (pick : List Bool → ℕ) where
  abbrev w : World
  w = world_of b

  pub match_value : (k j : ℕ) → Matches (world_step pick (call.Value k j) w) (machine_step (call.Value k j) b)
  unfolding world_step
  match_value k j =
      subst (λ o. Matches (world_step pick (call.Value k j) w) (came law.told o)) (sym (still_bind (replica_at b k) object b))
      (by_replica b fit eight law.told k there (λ h. still (object h) b) (λ l.
      subst (λ o. Matches there (came law.told o)) (sym (still_bind (object_at j) (stored k) b))
      (by_check b fit law.told (ltb j 128) (ltb j 128) 3 NoObject (Ok j) (law.told (value (store_at w.bank k).board j), w) (λ o. still (stored k o) b) refl refl (λ e.
      rw (asked_is b.stores k (λ m. model.value_answer m j) l, e)
      (λ _. record { answer = ap (λ (σ : Store). law.told (value σ.board j)) (sym (store_is b.stores k)); world = refl; fit = fit })))))
    where
      stored : ℕ → ℕ → Result ℕ Reason
      stored h o = raised (asked b.stores h (λ m. model.value_answer m o))

      object : ℕ → Result ℕ Reason
      object h = bind (object_at j) (stored h)

      there : steps.Result
      there = test (ltb j 128) 3 w (law.told (value (store_at w.bank k).board j), w)

  pub match_state : (t : ℕ) → Matches (world_step pick (call.State t) w) (machine_step (call.State t) b)
  unfolding world_step
  match_state t =
      subst (λ o. Matches (world_step pick (call.State t) w) (came state_listed o)) (sym (still_bind (transaction_at b t) (λ x. Ok (x.state, x.s)) b))
      (by_transaction b fit state_listed t (law.values ((entry w t).s ∷ phase_values (entry w t).phase), w) (λ x. still (Ok (x.state, x.s)) b) (λ l n _.
      record { answer = ap (λ (y : Entry). law.values (y.s ∷ phase_values y.phase)) (sym (entry_is b fit t)); world = refl; fit = fit }))

  pub match_write_set : (n : ℕ) → Matches (world_step pick (call.WriteSet n) w) (machine_step (call.WriteSet n) b)
  unfolding world_step
  match_write_set n =
      subst (λ (a : Result SetModel Reason). Matches (world_step pick (call.WriteSet n) w) (came set_listed (still a b))) (sym (if_opened_is b fit (set_at b n)))
      (subst (λ o. Matches (world_step pick (call.WriteSet n) w) (came set_listed o)) (told (set_at b n))
      (by_check b fit set_listed (up_to (length w.sets) n) (up_to (length b.sets) n) 4 NoWriteSet (Ok (nth_set b.sets n)) (law.values (set_values (numbered w.sets n)), w) (λ x. still (Ok x) b) (ap (λ i. up_to i n) (as_many_sets b.sets)) refl (λ _ _.
      record { answer = ap (λ (y : Numbered). law.values (set_values y)) (sym (set_is b.sets n)); world = refl; fit = fit })))
    where
      told : (a : Result SetModel Reason) → look a b (λ x. still (Ok x) b) ≡ still a b
      told (Ok x) = refl
      told (Err e) = refl

  pub match_applied : (k : ℕ) → Matches (world_step pick (call.Applied k) w) (machine_step (call.Applied k) b)
  unfolding world_step
  match_applied k =
      subst (λ o. Matches (world_step pick (call.Applied k) w) (came progress_listed o)) (sym (still_bind (replica_at b k) (λ h. Ok (progress_at b.sets h)) b))
      (by_replica b fit eight progress_listed k _ (λ h. still (Ok (progress_at b.sets h)) b) (λ l _.
      record { answer = ap progress_listed (progress_is b.sets k); world = refl; fit = fit }))
