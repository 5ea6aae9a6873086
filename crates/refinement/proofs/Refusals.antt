-- A refused call leaves the machine as it was: a check looks and changes nothing, and past the checks only a store refuses.
use Rattle.std.proofs.Common.{◌≡◌, ℕ, zero, suc, ◌+◌, Bool, true, false, cond, eqb, ltb, List, length, set, Some, None, Ok, Err, Option, Result, sym, refl, ap, ◌∙◌, subst, arith}
use Rattle.std.proofs.lemmas.List.{set-get_or}
use Rattle.std.proofs.lemmas.Bool.{both_ways}
use Rattle.calls.specs.declared.call.Call.{Call}
use Rattle.calls.specs.declared.call.Call.TheVariants.{Begin, Read, Write, Commit, GiveUp, Apply, Drain, Value, State, WriteSet, Applied}
use Rattle.tickets.specs.Boards.{Board}
use Rattle.tickets.specs.WriteSets.{Pairs}
use Rattle.stores.specs.declared.fault.StoreFault.{StoreFault}
use Rattle.stores.specs.Model as model
use Rattle.stores.specs.Model.{StoreModel, Place}
use Rattle.banks.specs.declared.fault.BankFault.{BankFault}
use Rattle.banks.specs.declared.fault.BankFault.TheVariants.{NoReplica}
use Rattle.banks.specs.Model.{no_store, asked, changed, lifted, store_at}
use Rattle.ledger.specs.declared.verdict.Verdict.{Verdict}
use Rattle.ledger.specs.declared.verdict.Verdict.TheVariants.{ReadOnly, Numbered, Clash}
use Rattle.ledger.specs.declared.transaction.Transaction.{Transaction}
use Rattle.ledger.specs.declared.transaction.Event.TheVariants as event
use Rattle.ledger.specs.Transactions.{nth_transaction}
use Rattle.ledger.specs.Sets.{SetModel, nth_set, lowest_clash, lowest_unapplied}
use Rattle.errands.specs.Outcomes.{done, refused, look, step}
use Rattle.errands.specs.Places.{vacant}
use Rattle.errands.specs.Replay.{AtBank, begin_at, write_at, commit_at, abort_at, replay}
use Rattle.machine.specs.declared.reason.Reason.{Reason}
use Rattle.machine.specs.declared.reason.Reason.TheVariants.{WriteSetsGiven, AlreadyOpened, Store}
use Rattle.machine.specs.Reasons.{from_store, listed}
use Rattle.machine.specs.Machine.{Machine, Came, with_stores, through, raised, replica_at, taking}
use Rattle.machine.specs.Opening.{may_open, opened_on}
use Rattle.machine.specs.Beginning.{starting, beginning}
use Rattle.machine.specs.Working.{write_checks, write_raised, written, writing, giving_up}
use Rattle.machine.specs.Committing.{own_of, judged, numbered, by_clash, by_own, committing}
use Rattle.machine.specs.Applying.{applicable, play_home, play_away, playing, on_lowest, drained, applying, draining}
use Rattle.law.specs.History.{Answer, accepted, is_fault}
use Rattle.law.specs.History.Answer.{told, fault, refused as refused-for}
use Rattle.refinement.specs.Answers.{refusal, answered, quiet, verdict_listed}
use Rattle.refinement.specs.Steps.{came, machine_step}
use Rattle.refinement.specs.Refusals.{Unmoved, EveryOpeningStays, EveryRefusalStays}
use Rattle.refinement.proofs.Calls.{no_store_fault}

-- refused, and not for a store's fault: the machine is the machine b
abbrev Keeps : {A : Type 0} → Machine → Came A → Type 0
Keeps b o = (e : Reason) → o.answer ≡ Err e → from_store e ≡ false → o.after ≡ b

-- refused for nothing but a store's fault
record OnlyFaults {A : Type 0} (o : Came A) : Type 0 where
  stores : (e : Reason) → o.answer ≡ Err e → from_store e ≡ true

only_faults_keeps : {A : Type 0} (b : Machine) (o : Came A) → OnlyFaults o → Keeps b o
only_faults_keeps b o h e is own = absurd (both_ways (from_store e) own (h.stores e is))

-- ---- shapes

keeps_done : {A : Type 0} (b c : Machine) (a : A) → Keeps b (done a c)
keeps_done b c a e is own = let z : ◌≡◌ {A = ℕ} 0 1 = cc in absurd (omega arith)

keeps_look : {A C : Type 0} (b : Machine) (r : Result A Reason) (f : A → Came C) → ((a : A) → Keeps b (f a)) → Keeps b (look r b f)
keeps_look b (Ok a) f h = h a
keeps_look b (Err e) f h = λ _ _ _. refl

faults_done : {A : Type 0} (c : Machine) (a : A) → OnlyFaults (done a c)
faults_done c a = record { stores = λ e is. let z : ◌≡◌ {A = ℕ} 0 1 = cc in absurd (omega arith) }

faults_step : {A C : Type 0} (o : Came A) (f : A → Machine → Came C) → OnlyFaults o → ((a : A) (c : Machine) → OnlyFaults (f a c)) → OnlyFaults (step o f)
faults_step {A} {C} o f h then = go o.answer refl
  where
    go : (r : Result A Reason) → o.answer ≡ r → OnlyFaults (step (record { answer = r; after = o.after }) f)
    go (Ok a) is = then a o.after
    go (Err x) is = record { stores = λ e same. let z : x ≡ e = cc in subst (λ (y : Reason). from_store y ≡ true) z (h.stores x is) }

faults_bank : {A : Type 0} (b : Machine) (o : AtBank A) → OnlyFaults (through b o)
faults_bank {A} b o = record { stores = go o.answer }
  where
    go : (r : Result A BankFault) (e : Reason) → raised r ≡ Err e → from_store e ≡ true
    go (Ok a) e is = let z : ◌≡◌ {A = ℕ} 0 1 = cc in absurd (omega arith)
    go (Err x) e is = let z : Store x ≡ e = cc in sym (ap from_store z)

-- a call of the bank, and what comes of it
faults_ends : {A C : Type 0} (b : Machine) (o : AtBank A) (a : Machine → C) (f : Machine → Machine) → OnlyFaults (step (through b o) (λ _ c. done (a c) (f c)))
faults_ends b o a f = faults_step (through b o) (λ _ c. done (a c) (f c)) (faults_bank b o) (λ _ c. faults_done (f c) (a c))

-- ---- the calls

keeps_begin : (b : Machine) (k : ℕ) → Keeps b (beginning b k)
keeps_begin b k =
    keeps_look b (starting b k) _ (λ x. only_faults_keeps b _
    (faults_ends b (begin_at x.home x.place b.stores) _ _))

-- what a store refuses to write it does not change
keeps_written : (b : Machine) (k p j v : ℕ) → Keeps b (written b (write_at k p (j, v) b.stores))
unfolding asked changed
keeps_written b k p j v = go (ltb k (length b.stores)) (model.write_place m p j v) refl
  where
    m : StoreModel
    m = store_at b.stores k

    left : Result Place StoreFault → List StoreModel
    left r = set b.stores k (model.leaves r (λ pl. model.with_place m p (Some pl)) m)

    go : (c : Bool) (r : Result Place StoreFault) → model.write_place m p j v ≡ r →
        Keeps b (record { answer = write_raised (cond c (lifted k (model.done r)) (Err (NoReplica k))); after = with_stores b (left (model.write_place m p j v)) })
    go false r is e same own = let z : Store (NoReplica k) ≡ e = cc in absurd (both_ways (from_store e) own (sym (ap from_store z)))
    go true (Ok pl) is e same own = let z : ◌≡◌ {A = ℕ} 0 1 = cc in absurd (omega arith)
    go true (Err x) is e same own = ap (with_stores b) (ap left is ∙ set-get_or b.stores k no_store)

keeps_write : (b : Machine) (t j v : ℕ) → Keeps b (writing b t j v)
keeps_write b t j v = keeps_look b (write_checks b t j v) _ (λ x. keeps_written b x.home x.place j v)

keeps_give_up : (b : Machine) (t : ℕ) → Keeps b (giving_up b t)
keeps_give_up b t =
    keeps_look b (taking b t event.GiveUp) _ (λ x. only_faults_keeps b _
    (faults_ends b (abort_at x.home x.place b.stores) _ _))

keeps_commit : (b : Machine) (t : ℕ) → Keeps b (committing b t)
keeps_commit b t = keeps_look b (taking b t (event.Commit ReadOnly)) _ (λ x. keeps_look b (own_of b x) _ (own x))
  where
    register : (x : Transaction) (u : Pairs) (c : Bool) → Keeps b (cond c (judged (numbered b t x u) t (Numbered (length b.sets + 1))) (refused WriteSetsGiven b))
    register x u true = keeps_done b _ _
    register x u false = λ _ _ _. refl

    clash : (x : Transaction) (u : Pairs) (o : Option ℕ) → Keeps b (by_clash b t x u o)
    clash x u None = register x u (ltb (length b.sets) 256)
    clash x u (Some n) = only_faults_keeps b _ (faults_ends b (abort_at x.home x.place b.stores) _ _)

    own : (x : Transaction) (o : Option Pairs) → Keeps b (by_own b t x o)
    own x None = only_faults_keeps b _ (faults_ends b (commit_at x.home x.place b.stores) _ _)
    own x (Some u) = clash x u (lowest_clash b.sets x.s u)

-- a write set that is played is refused by a store alone
faults_playing : (b : Machine) (k n : ℕ) → OnlyFaults (playing b k n)
unfolding playing
faults_playing b k n = go (eqb x.home k)
  where
    x : SetModel
    x = nth_set b.sets n

    go : (c : Bool) → OnlyFaults (cond c (play_home b k n x.transaction) (play_away b k n x.pairs))
    go true = faults_ends b (commit_at k (nth_transaction b.txns x.transaction).place b.stores) _ _
    go false = faults_ends b (replay k (vacant b.stores k) x.pairs b.stores) _ _

keeps_apply : (b : Machine) (k n : ℕ) → Keeps b (applying b k n)
keeps_apply b k n = keeps_look b (replica_at b k) _ (λ h. keeps_look b (applicable b h n) _ (λ i. only_faults_keeps b _ (faults_playing b h i)))

faults_drained : (k m made : ℕ) (b : Machine) → OnlyFaults (drained k m made b)
unfolding drained
faults_drained k zero made b = faults_done b made
faults_drained k (suc m) made b = go (faults_drained k m (made + 1)) (lowest_unapplied b.sets k)
  where
    go : ((c : Machine) → OnlyFaults (drained k m (made + 1) c)) → (o : Option ℕ) → OnlyFaults (on_lowest o made b (λ n. step (playing b k n) (λ _. drained k m (made + 1))))
    go more None = faults_done b made
    go more (Some n) = faults_step _ _ (faults_playing b k n) (λ _. more)

keeps_drain : (b : Machine) (k m : ℕ) → Keeps b (draining b k m)
keeps_drain b k m = keeps_look b (replica_at b k) _ (λ h. only_faults_keeps b _ (faults_drained h m 0 b))

-- ---- the answers, listed

-- a refusal is a store's fault, or it is not
refusal_faults : (e : Reason) → is_fault (refusal e) ≡ from_store e
refusal_faults e = go (from_store e)
  where
    go : (c : Bool) → is_fault (cond c (fault (listed e).0) (refused-for (listed e).0 (listed e).1)) ≡ c
    go true = refl
    go false = refl

unmoved : {A : Type 0} (f : A → Answer) (b : Machine) (o : Came A) → ((a : A) → accepted (f a) ≡ true) → Keeps b o → is_fault (came f o).0 ≡ false → Unmoved b (came f o).0 o.after
unmoved {A} f b o takes keeps = go o.answer refl
  where
    go : (r : Result A Reason) → o.answer ≡ r → is_fault (answered f r) ≡ false → accepted (answered f r) ≡ false → o.after ≡ b
    go (Ok a) is clean not = absurd (both_ways (accepted (f a)) not (takes a))
    go (Err e) is clean not = keeps e is (sym (refusal_faults e) ∙ clean)

verdict_accepted : (v : Verdict) → accepted (verdict_listed v) ≡ true
verdict_accepted ReadOnly = refl
verdict_accepted (Numbered n) = refl
verdict_accepted (Clash n) = refl

faultless : (c : Call) (b : Machine) → is_fault (machine_step c b).0 ≡ false → Unmoved b (machine_step c b).0 (machine_step c b).1
faultless (Begin k) b = unmoved told b (beginning b k) (λ _. refl) (keeps_begin b k)
faultless (Read t j) b = λ _ _. refl
faultless (Write t j v) b = unmoved quiet b (writing b t j v) (λ _. refl) (keeps_write b t j v)
faultless (Commit t) b = unmoved verdict_listed b (committing b t) verdict_accepted (keeps_commit b t)
faultless (GiveUp t) b = unmoved quiet b (giving_up b t) (λ _. refl) (keeps_give_up b t)
faultless (Apply k n) b = unmoved quiet b (applying b k n) (λ _. refl) (keeps_apply b k n)
faultless (Drain k m) b = unmoved told b (draining b k m) (λ _. refl) (keeps_drain b k m)
faultless (Value k j) b = λ _ _. refl
faultless (State t) b = λ _ _. refl
faultless (WriteSet n) b = λ _ _. refl
faultless (Applied k) b = λ _ _. refl

-- over a sound machine no store's fault comes up
pub every_refusal_stays : EveryRefusalStays
every_refusal_stays c b = record { sound = λ s. faultless c b (no_store_fault c b s); faultless = faultless c b }

pub every_opening_stays : EveryOpeningStays
every_opening_stays b = go b.opened (may_open b.stores)
  where
    checks : Result Board Reason → Came (Unit {0})
    checks r = look r b (λ start. done tt (opened_on b start))

    go : (c : Bool) (r : Result Board Reason) → Unmoved b (came quiet (cond c (refused AlreadyOpened b) (checks r))).0 (cond c (refused AlreadyOpened b) (checks r)).after
    go true r = λ _. refl
    go false (Err e) = λ _. refl
    go false (Ok start) = λ not. absurd (both_ways true not refl)
