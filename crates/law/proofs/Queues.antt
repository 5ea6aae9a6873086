-- A queue of any length on the plain board keeps the law, and meets no fault.
use Rattle.std.proofs.Common.{◌≡◌, ℕ, zero, suc, ◌-◌, ◌<◌, Bool, true, false, cond, List, [], ◌∷◌, length, refl, arith}
use lib.ListN.{get_or-replicate, length-replicate}
use Rattle.std.proofs.lemmas.Bool.{both_ways}
use Rattle.calls.specs.declared.call.Call.{Call}
use Rattle.calls.specs.declared.call.Call.TheVariants.{Applied, Apply, Begin, Commit, Drain, GiveUp, Read, State, Value, Write, WriteSet}
use Rattle.tickets.specs.Boards.{Board}
use Rattle.tickets.specs.WriteSets.{Pairs}
use Rattle.law.specs.Applications.{holds, played_at, unless_held}
use Rattle.law.specs.History.{History, is_fault, run_of}
use Rattle.law.specs.History.Answer.{done, read_only}
use Rattle.law.specs.History.Event.{event}
use Rattle.law.specs.Law.{AllRight, Law}
use Rattle.law.specs.Numbers.{lowest}
use Rattle.law.specs.Orderly.{Orderly}
use Rattle.law.specs.Plain.{Outcome, Plain, in_state, just_opened, transaction, with_transaction}
use Rattle.law.specs.Plain.TransactionState.{committed}
use Rattle.law.specs.Promise.{NoFault, PlainQueue}
use Rattle.law.specs.Steps.{run, step}
use Rattle.law.specs.Transactions.{clashes, verdict}
use Rattle.law.specs.Words.{facts}
use Rattle.law.specs.Writes.{is_empty}
use Rattle.law.proofs.Cases.{by_check, by_transaction}
use Rattle.law.proofs.OrderlySteps.{orderly_step}
use Rattle.law.proofs.Rights.{KeptBy, good}

pub runs : (start : Board) (K : ℕ) (queue : List Call) (h : History) (p : Plain) → Orderly p → KeptBy start K (facts h) p → AllRight start K h →
    KeptBy start K (facts (run queue h p).0) (run queue h p).1 × AllRight start K (run queue h p).0
unfolding run_of
runs start K [] h p ord q r = (q, r)
runs start K (c ∷ cs) h p ord q r = let g = good start K (facts h) p ord q c in runs start K cs (event c (step c p).0 ∷ h) (step c p).1 (orderly_step p ord c) g.kept (g.right, r)

pub kept_opened : (start : Board) (K : ℕ) → (0 < K → length start ≡ 128) → KeptBy start K [] (just_opened start K)
kept_opened start K e =
    record {
      replicas = length-replicate K start;
      begun = refl;
      given = refl;
      applied = refl;
      named = λ n x y. absurd (omega arith);
      saw = λ n x y. absurd (omega arith);
      each = λ k b. rw (get_or-replicate K k start [] b) (record { long = e (omega arith); played = λ j x. refl });
      transactions = λ t x y. absurd (omega arith);
      later = λ t x j. refl;
    }

pub orderly_opened : (start : Board) (K : ℕ) → Orderly (just_opened start K)
orderly_opened start K =
    record {
      few = omega arith;
      light = λ k. omega arith;
      least = λ k n e. absurd (both_ways false refl e);
      most = λ k n e. absurd (both_ways false refl e);
      closed = λ k n m a b e. absurd (both_ways false refl e);
      sets = λ n a b. absurd (omega arith);
      transactions = λ t a b. absurd (omega arith);
    }

pub law_of_run : (start : Board) (K : ℕ) (queue : List Call) → (0 < K → length start ≡ 128) →
    Law start K (run queue [] (just_opened start K)).0 (run queue [] (just_opened start K)).1.boards
law_of_run start K queue e =
    let r = runs start K queue [] (just_opened start K) (orderly_opened start K) (kept_opened start K e) tt in
    record {
      replicas = r.0.replicas;
      objects = λ k b. (r.0.each k b).long;
      played = λ k b j i. (r.0.each k b).played j i;
      answers = r.1;
    }

pub plain_queue : PlainQueue
plain_queue start K queue e = law_of_run start K queue (λ _. e)

-- the plain board has no store's faults
module _ (p : Plain) where
  abbrev Clean : Outcome → Type 0
  Clean o = is_fault o.0 ≡ false

  answers_no_fault : (c : Call) → is_fault (step c p).0 ≡ false
  unfolding step
  answers_no_fault (Begin k) = by_check Clean _ 1 p _ (λ _. refl) (λ _. by_check Clean _ 26 p _ (λ _. refl) (λ _. by_check Clean _ 27 p _ (λ _. refl) (λ _. by_check Clean _ 28 p _ (λ _. refl) (λ _. refl))))
  answers_no_fault (Read t j) = by_transaction Clean t p _ (λ _. refl) (λ b u l m h. by_check Clean _ 3 p _ (λ _. refl) (λ _. refl))
  answers_no_fault (Write t j v) = by_transaction Clean t p _ (λ _. refl) (λ b u l m h. by_check Clean _ 3 p _ (λ _. refl) (λ _. by_check Clean _ 5 p _ (λ _. refl) (λ _. by_check Clean _ 30 p _ (λ _. refl) (λ _. refl))))
  answers_no_fault (Commit t) = by_transaction Clean t p _ (λ _. refl) (λ b u l m h. go u (is_empty u) (lowest (clashes p.sets (transaction p t).s u) (length p.sets)))
    where
      judged : (u : Pairs) (r : ℕ) → is_fault (verdict r t u p).0 ≡ false
      judged u zero = by_check Clean _ 31 p _ (λ _. refl) (λ _. refl)
      judged u (suc r) = refl

      go : (u : Pairs) (b : Bool) (r : ℕ) → is_fault (cond b (read_only, with_transaction p t (in_state committed (transaction p t))) (verdict r t u p)).0 ≡ false
      go u true r = refl
      go u false r = judged u r
  answers_no_fault (GiveUp t) = by_transaction Clean t p _ (λ _. refl) (λ b u l m h. refl)
  answers_no_fault (Apply k n) = by_check Clean _ 1 p _ (λ _. refl) (λ _. by_check Clean _ 4 p _ (λ _. refl) (λ _. by_check Clean _ 32 p _ (λ _. refl) (λ _. go (lowest (holds (p.applied k) p.sets n) (n - 1)))))
    where
      go : (r : ℕ) → is_fault (unless_held r p (done, played_at k n p)).0 ≡ false
      go zero = refl
      go (suc r) = refl
  answers_no_fault (Drain k m) = by_check Clean _ 1 p _ (λ _. refl) (λ _. refl)
  answers_no_fault (Value k j) = by_check Clean _ 1 p _ (λ _. refl) (λ _. by_check Clean _ 3 p _ (λ _. refl) (λ _. refl))
  answers_no_fault (State t) = by_check Clean _ 2 p _ (λ _. refl) (λ _. refl)
  answers_no_fault (WriteSet n) = by_check Clean _ 4 p _ (λ _. refl) (λ _. refl)
  answers_no_fault (Applied k) = by_check Clean _ 1 p _ (λ _. refl) (λ _. refl)

pub no_faults : (queue : List Call) (h : History) (p : Plain) → NoFault h → NoFault (run queue h p).0
unfolding run_of
no_faults [] h p n = n
no_faults (c ∷ cs) h p n = no_faults cs (event c (step c p).0 ∷ h) (step c p).1 (answers_no_fault p c, n)
