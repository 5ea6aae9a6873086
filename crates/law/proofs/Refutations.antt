-- What the law or the plain board shuts out.
use Rattle.std.proofs.Common.{◌≡◌, ℕ, zero, suc, ◌<◌, min, Bool, true, false, cond, List, length, refl, arith}
use lib.ListN.{length-replicate}
use Rattle.std.proofs.lemmas.Bool.{both_ways, ltb-false}
use Rattle.calls.specs.declared.call.Call.TheVariants.{Begin, Commit}
use Rattle.tickets.specs.Boards.{Board}
use Rattle.tickets.specs.WriteSets.{Pairs}
use Rattle.law.specs.History.{run_of}
use Rattle.law.specs.History.Answer.{read_only, refused, told}
use Rattle.law.specs.Law.{lacking}
use Rattle.law.specs.Numbers.{lowest, whole}
use Rattle.law.specs.Plain.{Plain, check, in_state, just_opened, transaction, with_transaction}
use Rattle.law.specs.Plain.TransactionState.{committed}
use Rattle.law.specs.Refutations.{Refuted, Scene, scene_calls, zeros}
use Rattle.law.specs.Steps.{step}
use Rattle.law.specs.Transactions.{clashes, verdict}
use Rattle.law.specs.Writes.{is_empty}
use Rattle.law.proofs.Cases.{by_check, by_open}
use Rattle.law.proofs.Queues.{plain_queue}

pub scene_stands : Scene
unfolding step check run_of
scene_stands = record { answers = refl; more = refl; law = plain_queue zeros 2 scene_calls refl }

-- nothing of a begin on a board just opened is refused
just_opened_begin : (start : Board) (K k n : ℕ) (vs : List ℕ) → k < K → (step (Begin k) (just_opened start K)).0 ≡ refused n vs → ⊥
unfolding step
just_opened_begin start K k n vs l =
    let p = just_opened start K in
    by_check (λ o. o.0 ≡ refused n vs → ⊥) _ 1 p _
    (λ e. absurd (omega (arith, ltb-false k (length p.boards) e, length-replicate K start)))
    (λ _. by_check (λ o. o.0 ≡ refused n vs → ⊥) true 26 p _ (λ e. absurd (both_ways true e refl))
    (λ _. by_check (λ o. o.0 ≡ refused n vs → ⊥) true 27 p _ (λ e. absurd (both_ways true e refl))
    (λ _. by_check (λ o. o.0 ≡ refused n vs → ⊥) true 28 p _ (λ e. absurd (both_ways true e refl)) (λ _ e. let z : ◌≡◌ {A = ℕ} 0 1 = cc in omega arith))))

no_begin_in_holes : (p : Plain) (k t : ℕ) → whole (p.applied k) (length p.sets) ≡ false → (step (Begin k) p).0 ≡ told t → ⊥
unfolding step
no_begin_in_holes p k t e =
    by_check (λ o. o.0 ≡ told t → ⊥) _ 1 p _ (λ _ d. let z : ◌≡◌ {A = ℕ} 0 1 = cc in omega arith)
    (λ _. by_check (λ o. o.0 ≡ told t → ⊥) _ 26 p _ (λ _ d. let z : ◌≡◌ {A = ℕ} 0 1 = cc in omega arith) (λ d. absurd (both_ways (whole (p.applied k) (length p.sets)) e d)))

no_early_31 : (p : Plain) (t : ℕ) (vs : List ℕ) → length p.sets < 256 → (step (Commit t) p).0 ≡ refused 31 vs → ⊥
unfolding step
no_early_31 p t vs l = by_open (λ o. o.0 ≡ refused 31 vs → ⊥) t p _ (λ e. let z : ◌≡◌ {A = ℕ} 2 31 = cc in omega arith) (λ e. let z : ◌≡◌ {A = ℕ} 29 31 = cc in omega arith) (λ b u _ _ _. own u (is_empty u) (lowest (clashes p.sets (transaction p t).s u) (length p.sets)))
  where
    judged : (u : Pairs) (r : ℕ) → (verdict r t u p).0 ≡ refused 31 vs → ⊥
    judged u zero e = by_check (λ o. o.0 ≡ refused 31 vs → ⊥) _ 31 p _ (λ d. absurd (omega (arith, ltb-false (length p.sets) 256 d))) (λ _ d. let z : ◌≡◌ {A = ℕ} 0 1 = cc in omega arith) e
    judged u (suc r) e = let z : ◌≡◌ {A = ℕ} 0 1 = cc in omega arith

    own : (u : Pairs) (b : Bool) (r : ℕ) → (cond b (read_only, with_transaction p t (in_state committed (transaction p t))) (verdict r t u p)).0 ≡ refused 31 vs → ⊥
    own u true r e = let z : ◌≡◌ {A = ℕ} 0 1 = cc in omega arith
    own u false r e = judged u r e

pub refuted : Refuted
refuted =
    record {
      marks_only = λ l. let e : ◌≡◌ {A = ℕ} 0 5 = l.played 0 (omega arith) 0 (omega arith) in omega arith;
      own_board = λ l. let e : ◌≡◌ {A = ℕ} 0 5 = l.played 0 (omega arith) 0 (omega arith) in omega arith;
      always_aborts = λ start K h t m e r. omega (arith, r.0.later, r.0.given);
      causeless_abort = λ start K h t m n r. n r.0;
      seen_abort = λ start K h t m l r. omega (arith, r.0.later);
      overlooked_clash = λ r. r.1 1 (record { later = omega arith; given = omega arith; clashing = (0, refl) });
      overlooked_writes = λ r. let e = r 0 in let z : ◌≡◌ {A = ℕ} 0 1 = cc in omega arith;
      wrong_clash = λ r. let l = r.1 1 (record { later = omega arith; given = omega arith; clashing = (0, refl) }) in omega arith;
      own_read_of_zero = λ r. let e = r refl in let z : ◌≡◌ {A = ℕ} 0 7 = cc in omega arith;
      read_of_zero = λ r. let e = r refl in let z : ◌≡◌ {A = ℕ} 0 5 = cc in omega arith;
      refused_begin = just_opened_begin;
      begin_in_holes = no_begin_in_holes;
      out_of_order = λ start K h k n m a d e r. (r.checked e).free m d;
      drain_of_m = λ start K h k m l d r. let e = r.through l in let z : m ≡ min m (lacking h k) = cc in omega arith;
      drain_once = λ l. let e : ◌≡◌ {A = ℕ} 5 9 = l.played 1 (omega arith) 0 (omega arith) in omega arith;
      early_31 = no_early_31;
    }
