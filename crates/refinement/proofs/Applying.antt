-- Apply of the machine, beside the law's middleware.
use Rattle.std.proofs.Common.{◌≡◌, ℕ, zero, suc, ◌-◌, ◌<◌, ◌≤◌, Bool, true, false, cond, not, length, Ok, Err, sym, refl, ap, subst, arith}
use Rattle.std.proofs.lemmas.Bool.{both_ways}
use Rattle.calls.specs.declared.call.Call.TheVariants as call
use Rattle.ledger.specs.Words.{up_to, some_number}
use Rattle.ledger.specs.Sets.{SetModel, nth_set}
use Rattle.errands.specs.Outcomes.{look}
use Rattle.machine.specs.declared.reason.Reason.TheVariants.{NoWriteSet, AlreadyApplied}
use Rattle.machine.specs.Machine.{Machine, set_at}
use Rattle.machine.specs.Applying.{unless_held, free_at, applicable, playing}
use Rattle.law.specs.History as law
use Rattle.law.specs.Numbers.{lowest}
use Rattle.law.specs.Applications.{lacks, holds}
use Rattle.law.specs.World.{World}
use Rattle.law.specs.WorldSteps as steps
use Rattle.law.specs.WorldSteps.{test, Went, answered, unless_holds, world_play, world_step}
use Rattle.law.specs.WorldSteps.Went.{went, stuck}
use Rattle.law.specs.Coupled.{Coupled}
use Rattle.law.proofs.Numbers.{up_to_bounds}
use Rattle.refinement.specs.Worlds.{applied_of, world_of}
use Rattle.refinement.specs.Answers.{quiet}
use Rattle.refinement.specs.Steps.{came, machine_step}
use Rattle.refinement.proofs.Sets.{as_many_sets, applied_is, lowest_holding_is}
use Rattle.refinement.proofs.Places.{first_of_sixteen}
use Rattle.refinement.proofs.Simulation.{Fit, Matches, look_bind, by_check, by_replica}
use Rattle.refinement.proofs.Playing.{plays}

module _ (b : Machine) (fit : Fit b) (q : Coupled (world_of b)) (eight : length b.stores ≤ 8) (k n : ℕ) where
  abbrev w : World
  w = world_of b

  abbrev x : SetModel
  x = nth_set b.sets n

  -- the law's middleware, check by check
  abbrev law_plays : steps.Result
  law_plays = answered law.done (world_play first_of_sixteen k n w)

  abbrev lowest_held : ℕ
  lowest_held = lowest (holds (w.applied k) w.sets n) (n - 1)

  abbrev law_applies : steps.Result
  law_applies = test (lacks (w.applied k) n) 32 w (unless_holds lowest_held w law_plays)

  module _ (l : k < length b.stores) (least : 1 ≤ n) (most : n ≤ length b.sets) where
    -- nothing holds it back
    goes : applied_of b.sets k n ≡ false → Matches law_plays (came quiet (playing b k n))
    goes new = go (world_play first_of_sixteen k n w) refl
      where
        go : (g : Went) → world_play first_of_sixteen k n w ≡ g → Matches (answered law.done g) (came quiet (playing b k n))
        go (went v) e = let r = plays b fit q eight k n l least most new v e in λ _. rw r.answer (record { answer = refl; world = r.world; fit = r.fit })
        go (stuck i v) e = λ c. absurd (both_ways true c refl)

    -- the check 33
    held : applied_of b.sets k n ≡ false → (r : ℕ) → Matches (unless_holds r w law_plays) (came quiet (look (unless_held (some_number r) n) b (playing b k)))
    held new zero = goes new
    held new (suc r) = λ _. record { answer = refl; world = refl; fit = fit }

    -- the check 32
    applies : Matches law_applies (came quiet (look (free_at b k n x) b (playing b k)))
    unfolding test
    applies = rw (applied_is b.sets k n least, lowest_holding_is b.sets k n (n - 1)) (go (applied_of b.sets k n) refl)
      where
        go : (c : Bool) → applied_of b.sets k n ≡ c →
            Matches (test (not c) 32 w (unless_holds lowest_held w law_plays)) (came quiet (look (cond c (Err AlreadyApplied) (unless_held (some_number lowest_held) n)) b (playing b k)))
        go true e = λ _. record { answer = refl; world = refl; fit = fit }
        go false e = held e lowest_held

  pub match_apply : Matches (world_step first_of_sixteen (call.Apply k n) w) (machine_step (call.Apply k n) b)
  unfolding world_step
  match_apply =
      by_replica b fit eight quiet k numbered (λ h. look (applicable b h n) b (playing b h)) (λ l.
      subst (λ o. Matches numbered (came quiet o)) (sym (look_bind (set_at b n) (free_at b k n) b (playing b k)))
      (by_check b fit quiet (up_to (length w.sets) n) (up_to (length b.sets) n) 4 NoWriteSet (Ok x) law_applies (λ y. look (free_at b k n y) b (playing b k))
      (ap (λ i. up_to i n) (as_many_sets b.sets)) refl (λ e.
      let a = up_to_bounds (length w.sets) n e in applies l a.0 (omega (arith, a.1, as_many_sets b.sets)))))
    where
      numbered : steps.Result
      numbered = test (up_to (length w.sets) n) 4 w law_applies
