-- Every call of a sound machine is the plain board's: the machine keeps step with the law's middleware, and that with the plain board.
use Rattle.std.proofs.Common.{◌≡◌, ◌≤◌, Bool, true, false, cond, [], ◌∷◌, length, sym, refl, ap, ◌∙◌, subst, arith}
use Rattle.calls.specs.declared.call.Call.{Call}
use Rattle.calls.specs.declared.call.Call.TheVariants.{Begin, Read, Write, Commit, GiveUp, Apply, Drain, Value, State, WriteSet, Applied}
use Rattle.machine.specs.Machine.{Machine}
use Rattle.law.specs.History as law
use Rattle.law.specs.History.{Answer, is_fault, run_of}
use Rattle.law.specs.Plain.{Plain}
use Rattle.law.specs.Opening.{PlainBoard, board_step}
use Rattle.law.specs.Steps.{step}
use Rattle.law.specs.World.{World, world_plain}
use Rattle.law.specs.WorldSteps.{world_step}
use Rattle.law.specs.Coupled.{Coupled}
use Rattle.law.specs.Sound as middle
use Rattle.law.specs.Sound.{Middle}
use Rattle.law.proofs.SimulatedSteps.{every_world_call}
use Rattle.law.proofs.Queues.{no_faults}
use Rattle.refinement.specs.Worlds.{world_of, middle_of, plain_of}
use Rattle.refinement.specs.Steps.{machine_step}
use Rattle.refinement.specs.Sound.{Sound, Follows, EveryCall, NoStoreFault}
use Rattle.refinement.proofs.Banks.{as_many_stores}
use Rattle.refinement.proofs.Places.{first_of_sixteen, sixteen_picks}
use Rattle.refinement.proofs.Simulation.{Fit, Matches}
use Rattle.refinement.proofs.Beginning.{match_begin}
use Rattle.refinement.proofs.Working.{match_read, match_write, match_give_up}
use Rattle.refinement.proofs.Committing.{match_commit}
use Rattle.refinement.proofs.Applying.{match_apply}
use Rattle.refinement.proofs.Draining.{match_drain}
use Rattle.refinement.proofs.Questions.{match_value, match_state, match_write_set, match_applied}

-- the plain board has no store's faults
no_fault : (c : Call) (p : Plain) → is_fault (step c p).0 ≡ false
unfolding run_of
no_fault c p = (no_faults (c ∷ []) [] p tt).0

-- ---- an opened machine

module _ (b : Machine) (s : Sound b) (yes : b.opened ≡ true) where
  abbrev w : World
  w = world_of b

  q : Coupled w
  q = subst (λ c. middle.Sound (cond c (Middle.opened w) (Middle.unopened w))) yes s.coupled

  fit : Fit b
  fit = record { opened = yes; stores = s.stores; marks = s.marks }

  eight : length b.stores ≤ 8
  eight = omega (arith, q.eight, as_many_stores b.stores)

  matches : (c : Call) → Matches (world_step first_of_sixteen c w) (machine_step c b)
  matches (Begin k) = match_begin b fit eight k
  matches (Read t j) = match_read b fit q first_of_sixteen t j
  matches (Write t j v) = match_write b fit q first_of_sixteen t j v
  matches (Commit t) = match_commit b fit q t first_of_sixteen
  matches (GiveUp t) = match_give_up b fit q first_of_sixteen t
  matches (Apply k n) = match_apply b fit q eight k n
  matches (Drain k m) = match_drain b fit q eight k m
  matches (Value k j) = match_value b fit eight first_of_sixteen k j
  matches (State t) = match_state b fit eight first_of_sixteen t
  matches (WriteSet n) = match_write_set b fit eight first_of_sixteen n
  matches (Applied k) = match_applied b fit eight first_of_sixteen k

  opened_is : (c : Machine) → c.opened ≡ true → middle_of c ≡ Middle.opened (world_of c)
  opened_is c e = ap (λ o. cond o (Middle.opened (world_of c)) (Middle.unopened (world_of c))) e

  follows : (c : Call) → Follows (board_step c (plain_of b)) (machine_step c b).0 (machine_step c b).1
  follows c =
      let f = every_world_call first_of_sixteen sixteen_picks c w q in
      let r = matches c (ap is_fault f.answer ∙ no_fault c (world_plain w)) in
      let to : board_step c (plain_of b) ≡ ((step c (world_plain w)).0, PlainBoard.opened (step c (world_plain w)).1) =
      ap (λ (m : Middle). board_step c (middle.plain_of m)) (opened_is b yes) in
      let after : middle_of (machine_step c b).1 ≡ Middle.opened (world_step first_of_sixteen c w).1 = opened_is (machine_step c b).1 r.fit.opened ∙ ap Middle.opened r.world in
      record {
        answer = r.answer ∙ (f.answer ∙ sym (ap (λ (o : Answer × PlainBoard). o.0) to));
        after = ap middle.plain_of after ∙ (ap PlainBoard.opened f.after ∙ sym (ap (λ (o : Answer × PlainBoard). o.1) to));
        sound = record { stores = r.fit.stores; marks = r.fit.marks; coupled = subst middle.Sound (sym after) f.coupled };
      }

-- ---- a machine that is not opened

pub unopened_is : (b : Machine) → b.opened ≡ false → middle_of b ≡ Middle.unopened (world_of b)
unopened_is b e = ap (λ o. cond o (Middle.opened (world_of b)) (Middle.unopened (world_of b))) e

unopened_step : (c : Call) (b : Machine) → b.opened ≡ false → machine_step c b ≡ (law.refused 20 [], b)
unopened_step (Begin k) b e = rw e
unopened_step (Read t j) b e = rw e
unopened_step (Write t j v) b e = rw e
unopened_step (Commit t) b e = rw e
unopened_step (GiveUp t) b e = rw e
unopened_step (Apply k n) b e = rw e
unopened_step (Drain k m) b e = rw e
unopened_step (Value k j) b e = rw e
unopened_step (State t) b e = rw e
unopened_step (WriteSet n) b e = rw e
unopened_step (Applied k) b e = rw e

not_yet : (c : Call) (b : Machine) → Sound b → b.opened ≡ false → Follows (board_step c (plain_of b)) (machine_step c b).0 (machine_step c b).1
not_yet c b s e =
    let to : board_step c (plain_of b) ≡ (law.refused 20 [], PlainBoard.unopened) = ap (λ (m : Middle). board_step c (middle.plain_of m)) (unopened_is b e) in
    let step : (law.refused 20 [], b) ≡ machine_step c b = sym (unopened_step c b e) in
    subst (λ (o : Answer × Machine). Follows (board_step c (plain_of b)) o.0 o.1) step
    (record { answer = sym (ap (λ (o : Answer × PlainBoard). o.0) to); after = ap middle.plain_of (unopened_is b e) ∙ sym (ap (λ (o : Answer × PlainBoard). o.1) to); sound = s })

pub every_call : EveryCall
every_call c b s = go b.opened refl
  where
    go : (o : Bool) → b.opened ≡ o → Follows (board_step c (plain_of b)) (machine_step c b).0 (machine_step c b).1
    go true e = follows b s e c
    go false e = not_yet c b s e

plain_no_fault : (c : Call) (p : PlainBoard) → is_fault (board_step c p).0 ≡ false
plain_no_fault c PlainBoard.unopened = refl
plain_no_fault c (PlainBoard.opened p) = no_fault c p

pub no_store_fault : NoStoreFault
no_store_fault c b s = ap is_fault (every_call c b s).answer ∙ plain_no_fault c (plain_of b)
