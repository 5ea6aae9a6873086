-- Drain of the machine, beside the law's middleware: it counts its applications, and the count is the plain board's.
use Rattle.std.proofs.Common.{◌≡◌, ℕ, zero, suc, ◌+◌, ◌<◌, ◌≤◌, min, Bool, true, false, cond, not, ◌||◌, eqb, List, length, Ok, sym, refl, ap, ◌∙◌, subst, arith, length-set}
use Rattle.std.proofs.lemmas.Bool.{both_ways, eq-eqb, lt-ltb, not-true}
use Rattle.calls.specs.declared.call.Call.TheVariants as call
use Rattle.ledger.specs.Words.{some_number}
use Rattle.errands.specs.Outcomes.{step}
use Rattle.machine.specs.Machine.{Machine, Came}
use Rattle.machine.specs.Applying.{playing, on_lowest, drained}
use Rattle.law.specs.History as law
use Rattle.law.specs.Numbers.{count, lowest}
use Rattle.law.specs.Plain.{Numbered, numbered}
use Rattle.law.specs.Applications.{marked, lacks}
use Rattle.law.specs.Store.{Done}
use Rattle.law.specs.World.{Entry, World, with_applied}
use Rattle.law.specs.WorldSteps as steps
use Rattle.law.specs.WorldSteps.{Went, test, and_go, then_go, answered, world_play, world_drained, world_step}
use Rattle.law.specs.WorldSteps.Went.{went, stuck}
use Rattle.law.specs.Coupled.{Coupled}
use Rattle.law.proofs.Numbers.{Lowest, lowest_is, count_same}
use Rattle.law.proofs.Few.{count_none, count_less}
use Rattle.law.proofs.SimulatedSteps.{every_world_call}
use Rattle.refinement.specs.Worlds.{world_of}
use Rattle.refinement.specs.Steps.{came, machine_step}
use Rattle.refinement.proofs.Sets.{as_many_sets, lowest_unapplied_is}
use Rattle.refinement.proofs.Banks.{as_many_stores}
use Rattle.refinement.proofs.Places.{first_of_sixteen, sixteen_picks}
use Rattle.refinement.proofs.Simulation.{Fit, Matches, by_replica}
use Rattle.refinement.proofs.Playing.{gone, plays}

-- ---- what one application of the law's middleware leaves

record Marked (k n : ℕ) (w v : World) : Type 0 where
  applied : v.applied ≡ marked k n w.applied
  sets : v.sets ≡ w.sets
  replicas : length v.bank ≡ length w.bank

marks : (k n : ℕ) (w v : World) → world_play first_of_sixteen k n w ≡ went v → Marked k n w v
marks k n w v = go (eqb k (numbered w.sets n).home) _ _ _ _
  where
    one : (d : Done) (T : List Entry) → and_go d w k (with_applied w k n T) ≡ went v → Marked k n w v
    one d T e =
        let r = gone d w k (with_applied w k n T) v e in
        let is = sym r.2 in
        record { applied = ap (λ (u : World). u.applied) is; sets = ap (λ (u : World). u.sets) is; replicas = ap (λ (u : World). length u.bank) is ∙ length-set w.bank k r.0 }

    go : (c : Bool) (d : Done) (T : List Entry) (d' : Done) (T' : List Entry) → cond c (and_go d w k (with_applied w k n T)) (and_go d' w k (with_applied w k n T')) ≡ went v → Marked k n w v
    go true d T d' T' e = one d T e
    go false d T d' T' e = one d' T' e

-- how many numbers are lacking at k
abbrev lacking : ℕ → World → ℕ
lacking k w = count (lacks (w.applied k)) (length w.sets)

one_fewer : (k n : ℕ) (w v : World) → Marked k n w v → w.applied k n ≡ false → 1 ≤ n → n ≤ length w.sets → lacking k w ≡ suc (lacking k v)
one_fewer k n w v r new least most =
    count_less (w.applied k) n new least (length w.sets) most
    ∙ ap suc (count_same (λ i. not (eqb i n || w.applied k i)) (lacks (v.applied k)) (length w.sets) (λ i _ _. sym (at i))
    ∙ ap (λ (N : List Numbered). count (lacks (v.applied k)) (length N)) (sym r.sets))
  where
    at : (i : ℕ) → not (v.applied k i) ≡ not (eqb i n || w.applied k i)
    at i = ap (λ (A : ℕ → ℕ → Bool). not (A k i)) r.applied ∙ rw (eq-eqb k k refl)

-- the lowest lacking number, applied, leaves the law's middleware coupled
still_coupled : (k r : ℕ) (w v : World) → Coupled w → k < length w.bank → lowest (lacks (w.applied k)) (length w.sets) ≡ suc r →
    world_play first_of_sixteen k (suc r) w ≡ went v → Coupled v
unfolding world_step test
still_coupled k r w v q l low e =
    let f = every_world_call first_of_sixteen sixteen_picks (call.Drain k 1) w q in
    let is : (world_step first_of_sixteen (call.Drain k 1) w).1 ≡ v = rw (lt-ltb k (length w.bank) l, low, e) in
    subst Coupled is f.coupled

then_went : (g : Went) (f : World → Went) (v : World) → then_go g f ≡ went v → (u : World) × (g ≡ went u) × (f u ≡ went v)
then_went (went u) f v e = (u, refl, e)
then_went (stuck n u) f v e = absurd (let z : ◌≡◌ {A = ℕ} 0 1 = cc in omega arith)

-- ---- the machine beside it

-- after those made before, m more are played at k, or all that are lacking
record Drained (k m made : ℕ) (w v : World) (o : Came ℕ) : Type 0 where
  answer : o.answer ≡ Ok (made + min m (lacking k w))
  world : world_of o.after ≡ v
  fit : Fit o.after

-- what holds of every machine with as many replicas
abbrev Drains : ℕ → ℕ → ℕ → World → Type 0
Drains k m made v =
    (b : Machine) → Fit b → Coupled (world_of b) → length b.stores ≤ 8 → k < length b.stores →
    world_drained first_of_sixteen k m (world_of b) ≡ went v → Drained k m made (world_of b) v (drained k m made b)

drains : (k m made : ℕ) (v : World) → Drains k m made v
unfolding drained
drains k zero made v b fit q eight l e = record { answer = ap Ok (omega arith); world = cc; fit = fit }
drains k (suc m) made v b fit q eight l e =
    rw (lowest_unapplied_is b.sets k) (go (drains k m (made + 1) v) (lowest (lacks (w.applied k)) (length w.sets)) refl (lowest_is (lacks (w.applied k)) (length w.sets)) e)
  where
    w : World
    w = world_of b

    go : Drains k m (made + 1) v → (r : ℕ) → lowest (lacks (w.applied k)) (length w.sets) ≡ r → Lowest (lacks (w.applied k)) (length w.sets) r →
        steps.on_lowest r w (λ n. then_go (world_play first_of_sixteen k n w) (world_drained first_of_sixteen k m)) ≡ went v →
        Drained k (suc m) made w v (on_lowest (some_number r) made b (λ n. step (playing b k n) (λ _. drained k m (made + 1))))
    go ih zero low h d = record { answer = ap Ok (omega (arith, count_none (lacks (w.applied k)) (length w.sets) h)); world = cc; fit = fit }
    go ih (suc r) low h d =
        let t = then_went (world_play first_of_sixteen k (suc r) w) (world_drained first_of_sixteen k m) v d in
        let new : w.applied k (suc r) ≡ false = not-true (w.applied k (suc r)) h.passes in
        let a = plays b fit q eight k (suc r) l h.least (omega (arith, h.most, as_many_sets b.sets)) new t.0 t.1 in
        let c = (playing b k (suc r)).after in
        let one = marks k (suc r) w t.0 t.1 in
        let width : length c.stores ≡ length b.stores = omega (arith, as_many_stores c.stores, ap (λ (u : World). length u.bank) a.world, one.replicas, as_many_stores b.stores) in
        let p : Coupled (world_of c) = subst Coupled (sym a.world) (still_coupled k r w t.0 q (omega (arith, as_many_stores b.stores)) low t.1) in
        let i = ih c a.fit p (omega arith) (omega arith) (ap (world_drained first_of_sixteen k m) a.world ∙ t.2) in
        let fewer : lacking k w ≡ suc (lacking k (world_of c)) = one_fewer k (suc r) w t.0 one new h.least h.most ∙ ap (λ (u : World). suc (lacking k u)) (sym a.world) in
        let sum : made + 1 + min m (lacking k (world_of c)) ≡ made + min (suc m) (lacking k w) = omega arith in
        rw a.answer (record { answer = i.answer ∙ ap Ok sum; world = i.world; fit = i.fit })

module _ (b : Machine) (fit : Fit b) (q : Coupled (world_of b)) (eight : length b.stores ≤ 8) (k m : ℕ) where
  abbrev w : World
  w = world_of b

  pub match_drain : Matches (world_step first_of_sixteen (call.Drain k m) w) (machine_step (call.Drain k m) b)
  unfolding world_step
  match_drain = by_replica b fit eight law.told k _ (λ h. drained h m 0 b) (λ l. go l (world_drained first_of_sixteen k m w) refl)
    where
      go : k < length b.stores → (g : Went) → world_drained first_of_sixteen k m w ≡ g → Matches (answered (law.told (min m (lacking k w))) g) (came law.told (drained k m 0 b))
      go l (went v) e = let r = drains k m 0 v b fit q eight l e in λ _. rw r.answer (record { answer = ap law.told (omega arith); world = r.world; fit = r.fit })
      go l (stuck i v) e = λ c. absurd (both_ways true c refl)
