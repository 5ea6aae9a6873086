-- The machine beside the law's middleware, step by step: checks, looks at a transaction, and calls of a store.
use Rattle.std.proofs.Common.{◌≡◌, ℕ, ◌-◌, ◌<◌, ◌≤◌, Bool, true, false, cond, ltb, [], length, Ok, Err, Result, sym, refl, ap, ◌∙◌, subst, arith}
use lib.ListN.{length-map, get_or-map}
use Rattle.std.proofs.lemmas.Bool.{both_ways, ltb-true, cond-true}
use Rattle.stores.specs.declared.fault.StoreFault.{StoreFault}
use Rattle.stores.specs.Model.{StoreModel, Lawful}
use Rattle.banks.specs.Model as banks
use Rattle.banks.specs.Model.{changed, lifted, told_count}
use Rattle.ledger.specs.declared.transaction.Event.{Event}
use Rattle.ledger.specs.declared.transaction.Transaction.{Transaction}
use Rattle.ledger.specs.declared.transaction.TransactionState.{TransactionState}
use Rattle.ledger.specs.declared.transaction.TransactionState.TheVariants.{Open, Pending, Committed, Aborted, GivenUp}
use Rattle.ledger.specs.Words.{up_to}
use Rattle.ledger.specs.Transactions.{takes, nth_transaction, no_transaction}
use Rattle.errands.specs.Outcomes as outcomes
use Rattle.errands.specs.Outcomes.{look, step}
use Rattle.errands.specs.Replay.{at}
use Rattle.machine.specs.declared.reason.Reason.{Reason}
use Rattle.machine.specs.declared.reason.Reason.TheVariants.{NotOpened, NoReplica, NoTransaction, TransactionNotOpen}
use Rattle.machine.specs.Machine.{Machine, Came, with_stores, bind, through, raised, if_opened, replica_at, transaction_at, if_taken, taking}
use Rattle.law.specs.History.{Answer, is_fault}
use Rattle.law.specs.History.Answer.{refused}
use Rattle.law.specs.Store.{Store, Done}
use Rattle.law.specs.World.{Entry, World, entry}
use Rattle.law.specs.WorldSteps as steps
use Rattle.law.specs.WorldSteps.{test, on_phase, on_entry, on_fine}
use Rattle.law.proofs.Numbers.{up_to_bounds}
use Rattle.refinement.specs.Stores.{law_store}
use Rattle.refinement.specs.Worlds.{phase_of, entry_of, world_of}
use Rattle.refinement.specs.Answers.{refusal}
use Rattle.refinement.specs.Steps.{came}
use Rattle.refinement.specs.Sound.{LawfulStores, EightMarks}
use Rattle.refinement.proofs.Stores.{done_of}
use Rattle.refinement.proofs.Banks.{as_many_stores, asked_is, lawful_changed}

-- what an opened machine keeps by itself
pub record Fit (b : Machine) : Type 0 where
  pub opened : b.opened ≡ true
  pub stores : LawfulStores b.stores
  pub marks : EightMarks b.sets

-- the machine's answer and what it is left as, beside what the law's middleware comes to
pub record Reached (r : steps.Result) (o : Answer × Machine) : Type 0 where
  pub answer : o.0 ≡ r.0
  pub world : world_of o.1 ≡ r.1
  pub fit : Fit o.1

-- unless a store's fault came up
abbrev pub Matches : steps.Result → Answer × Machine → Type 0
Matches r o = is_fault r.0 ≡ false → Reached r o

-- ---- shapes

-- a look at what follows another answer is two looks
pub look_bind : {A B C : Type 0} (r : Result A Reason) (g : A → Result B Reason) (b : Machine) (f : B → Came C) →
    look (bind r g) b f ≡ look r b (λ a. look (g a) b f)
look_bind (Ok a) g b f = refl
look_bind (Err e) g b f = refl

-- a question: an answer, and nothing changes
abbrev pub still : {A : Type 0} → Result A Reason → Machine → Came A
still r b = record { answer = r; after = b }

pub still_bind : {A B : Type 0} (r : Result A Reason) (g : A → Result B Reason) (b : Machine) → still (bind r g) b ≡ look r b (λ a. still (g a) b)
still_bind (Ok a) g b = refl
still_bind (Err e) g b = refl

-- an event that only an open transaction takes
pub record OpenOnly (e : Event) : Type 0 where
  pub live : takes Open e ≡ true
  pub pending : (n : ℕ) → takes (Pending n) e ≡ false
  pub committed : takes Committed e ≡ false
  pub aborted : takes Aborted e ≡ false
  pub given_up : takes GivenUp e ≡ false

module _ (b : Machine) (fit : Fit b) where
  abbrev w : World
  w = world_of b

  pub unchanged : (a : Answer) → Matches (a, w) (a, b)
  unchanged a h = record { answer = refl; world = refl; fit = fit }

  -- a check that both make, and what follows it
  pub by_check : {A C : Type 0} (f : C → Answer) (c d : Bool) (n : ℕ) (e : Reason) (a : Result A Reason) (r : steps.Result) (g : A → Came C) →
      c ≡ d → refusal e ≡ refused n [] → (c ≡ true → Matches r (came f (look a b g))) →
      Matches (test c n w r) (came f (look (cond d a (Err e)) b g))
  unfolding test
  by_check f true true n e a r g s i h = h refl
  by_check f true false n e a r g s i h = absurd (both_ways true s refl)
  by_check f false true n e a r g s i h = absurd (both_ways false refl s)
  by_check f false false n e a r g s i h = λ _. record { answer = i; world = refl; fit = fit }

  pub by_choice : {C : Type 0} (f : C → Answer) (c d : Bool) (n : ℕ) (e : Reason) (o : Came C) (r : steps.Result) →
      c ≡ d → refusal e ≡ refused n [] → Matches r (came f o) →
      Matches (test c n w r) (came f (cond d o (outcomes.refused e b)))
  unfolding test
  by_choice f true true n e o r s i h = h
  by_choice f true false n e o r s i h = absurd (both_ways true s refl)
  by_choice f false true n e o r s i h = absurd (both_ways false refl s)
  by_choice f false false n e o r s i h = λ _. record { answer = i; world = refl; fit = fit }

  -- the check 20
  pub if_opened_is : {A : Type 0} (r : Result A Reason) → if_opened b r ≡ r
  if_opened_is r = cond-true b.opened r (Err NotOpened) fit.opened

  -- ---- a replica: 1

  pub by_replica : length b.stores ≤ 8 → {C : Type 0} (f : C → Answer) (k : ℕ) (r : steps.Result) (g : ℕ → Came C) →
      (k < length b.stores → Matches r (came f (g k))) →
      Matches (test (ltb k (length w.bank)) 1 w r) (came f (look (replica_at b k) b g))
  by_replica eight f k r g h =
      subst (λ (a : Result ℕ Reason). Matches (test (ltb k (length w.bank)) 1 w r) (came f (look a b g)))
      (sym (if_opened_is (cond (ltb k (told_count b.stores)) (Ok k) (Err NoReplica))))
      (by_check f (ltb k (length w.bank)) (ltb k (told_count b.stores)) 1 NoReplica (Ok k) r g (ap (ltb k) same) refl
      (λ e. h (omega (arith, ltb-true k (length w.bank) e, as_many_stores b.stores))))
    where
      same : length w.bank ≡ told_count b.stores
      same = omega (arith, as_many_stores b.stores)

  -- ---- a transaction: 2, 29

  pub as_many_entries : length w.entries ≡ length b.txns
  as_many_entries = length-map b.txns entry_of

  pub entry_is : (t : ℕ) → entry w t ≡ entry_of (nth_transaction b.txns t)
  entry_is t = get_or-map entry_of b.txns (t - 1) no_transaction

  pub by_transaction : {C : Type 0} (f : C → Answer) (t : ℕ) (r : steps.Result) (g : Transaction → Came C) →
      (1 ≤ t → t ≤ length b.txns → Matches r (came f (g (nth_transaction b.txns t)))) →
      Matches (test (up_to (length w.entries) t) 2 w r) (came f (look (transaction_at b t) b g))
  by_transaction f t r g h =
      subst (λ (a : Result Transaction Reason). Matches (test (up_to (length w.entries) t) 2 w r) (came f (look a b g)))
      (sym (if_opened_is (cond (up_to (length b.txns) t) (Ok x) (Err NoTransaction))))
      (by_check f (up_to (length w.entries) t) (up_to (length b.txns) t) 2 NoTransaction (Ok x) r g (ap (λ n. up_to n t) as_many_entries) refl
      (λ e. let a = up_to_bounds (length w.entries) t e in h a.0 (omega (arith, a.1, as_many_entries))))
    where
      x : Transaction
      x = nth_transaction b.txns t

  pub by_open : {C : Type 0} (f : C → Answer) (t : ℕ) (e : Event) → OpenOnly e → (r : steps.Result) (g : Transaction → Came C) →
      (1 ≤ t → t ≤ length b.txns → (nth_transaction b.txns t).state ≡ Open → Matches r (came f (g (nth_transaction b.txns t)))) →
      Matches (on_entry t w r) (came f (look (taking b t e) b g))
  by_open f t e only r g h =
      subst (λ o. Matches (on_entry t w r) (came f o)) (sym (look_bind (transaction_at b t) (if_taken e) b g))
      (by_transaction f t (on_phase (entry w t).phase w r) (λ y. look (if_taken e y) b g)
      (λ l m. subst (λ (y : Entry). Matches (on_phase y.phase w r) (came f (look (if_taken e x) b g))) (sym (entry_is t)) (go l m x.state refl)))
    where
      x : Transaction
      x = nth_transaction b.txns t

      taken : TransactionState → Result Transaction Reason
      taken q = cond (takes q e) (Ok x) (Err TransactionNotOpen)

      closed : takes x.state e ≡ false → Matches (refused 29 [], w) (came f (look (taken x.state) b g))
      closed i = rw i (λ _. record { answer = refl; world = refl; fit = fit })

      go : 1 ≤ t → t ≤ length b.txns → (q : TransactionState) → x.state ≡ q → Matches (on_phase (phase_of q) w r) (came f (look (taken x.state) b g))
      go l m Open i = rw (ap (λ q. takes q e) i ∙ only.live) (h l m i)
      go l m (Pending n) i = closed (ap (λ q. takes q e) i ∙ only.pending n)
      go l m Committed i = closed (ap (λ q. takes q e) i ∙ only.committed)
      go l m Aborted i = closed (ap (λ q. takes q e) i ∙ only.aborted)
      go l m GivenUp i = closed (ap (λ q. takes q e) i ∙ only.given_up)

  -- ---- a call of the store k, and what follows it

  -- where the law's middleware keeps what a fault left, at i, does not matter
  pub by_store : {C : Type 0} (f : C → Answer) (k i : ℕ) (call : Done) (answer : StoreModel → Result (Unit {0}) StoreFault) (after : StoreModel → StoreModel)
      (F : Store → steps.Result) (g : Unit {0} → Machine → Came C) →
      k < length b.stores →
      call ≡ done_of (answer (banks.store_at b.stores k)) (law_store (after (banks.store_at b.stores k))) →
      Matches (F (law_store (after (banks.store_at b.stores k)))) (came f (g tt (with_stores b (changed b.stores k after)))) →
      Matches (on_fine call w i F) (came f (step (through b (at b.stores k answer after)) g))
  by_store f k i call answer after F g l same h = rw (same, asked_is b.stores k answer l) (go (answer m))
    where
      m : StoreModel
      m = banks.store_at b.stores k

      go : (a : Result (Unit {0}) StoreFault) →
          Matches (on_fine (done_of a (law_store (after m))) w i F) (came f (step (record { answer = raised (lifted k a); after = with_stores b (changed b.stores k after) }) g))
      go (Ok u) = h
      go (Err e) = λ c. absurd (both_ways true c refl)

  -- the store's board and places change, and nothing else that the machine keeps
  pub fit_changed : (k : ℕ) (after : StoreModel → StoreModel) → ((m : StoreModel) → Lawful m → Lawful (after m)) → Fit (with_stores b (changed b.stores k after))
  fit_changed k after keeps = record { opened = fit.opened; stores = lawful_changed b.stores fit.stores k after keeps; marks = fit.marks }
