-- A numbered write set played at a replica by the machine, beside the law's middleware.
use Rattle.std.proofs.Common.{◌≡◌, ℕ, ◌-◌, ◌<◌, ◌≤◌, Bool, true, false, cond, eqb, ◌⊎◌, List, map, length, set, Ok, Option, sym, refl, ap, ◌∙◌, subst, inl, inr, arith}
use Rattle.std.proofs.lemmas.Bool.{cases_eq, ne_eqb, eqb-true}
use Rattle.tickets.specs.WriteSets.{Pairs}
use Rattle.stores.specs.Model.{StoreModel}
use Rattle.ledger.specs.declared.transaction.Event.TheVariants.{Applied}
use Rattle.ledger.specs.declared.transaction.Transaction.{Transaction}
use Rattle.ledger.specs.declared.transaction.TransactionState.{TransactionState}
use Rattle.ledger.specs.declared.transaction.TransactionState.TheVariants.{Open, Pending, Committed, Aborted, GivenUp}
use Rattle.ledger.specs.Transactions.{nth_transaction}
use Rattle.ledger.specs.Sets.{SetModel, nth_set, marked_set}
use Rattle.errands.specs.Places.{vacant}
use Rattle.errands.specs.Replay.{commit_at, replay}
use Rattle.machine.specs.Machine.{Machine, Came, told}
use Rattle.machine.specs.Applying.{play_home, play_away, play_set, playing}
use Rattle.law.specs.Plain as plain
use Rattle.law.specs.Plain.{Numbered, numbered, pairs}
use Rattle.law.specs.Store.{Place, Store, Done, place, store_commit, store_play}
use Rattle.law.specs.Store.Done.{fine, failed}
use Rattle.law.specs.Opening.{store_at}
use Rattle.law.specs.World.{Phase, Entry, World, entry, place_of, state_of, transaction_of, world_plain, in_phase, picked, with_applied}
use Rattle.law.specs.WorldSteps.{Went, and_go, world_play}
use Rattle.law.specs.WorldSteps.Went.{went}
use Rattle.law.specs.Coupled.{Coupled}
use Rattle.law.proofs.Worlds.{transaction_is}
use Rattle.refinement.specs.Stores.{law_bank}
use Rattle.refinement.specs.Worlds.{phase_of, entry_of, numbered_of, applied_of, world_of}
use Rattle.refinement.specs.Sound.{LawfulStores}
use Rattle.refinement.proofs.Sets.{as_many_sets, set_is, mark_keeps_sets, mark_is, mark_keeps_eight}
use Rattle.refinement.proofs.Banks.{store_is}
use Rattle.refinement.proofs.Places.{first_of_sixteen}
use Rattle.refinement.proofs.Beginning.{same_place}
use Rattle.refinement.proofs.Replaying.{commits, replays}
use Rattle.refinement.proofs.Simulation.{Fit, entry_is}
use Rattle.refinement.proofs.Working.{place_is, entries_moved}

-- an application that went through: nothing is refused, and the machine is the world v
pub record Played (v : World) (o : Came (Unit {0})) : Type 0 where
  pub answer : o.answer ≡ Ok tt
  pub world : world_of o.after ≡ v
  pub fit : Fit o.after

-- what went through
pub gone : (d : Done) (w : World) (k : ℕ) (f : Store → World) (v : World) → and_go d w k f ≡ went v → (σ : Store) × (d ≡ fine σ) × (f σ ≡ v)
gone (fine σ) w k f v e = let z : f σ ≡ v = cc in (σ, refl, z)
gone (failed n σ) w k f v e = absurd (let z : ◌≡◌ {A = ℕ} 0 1 = cc in omega arith)

eqb_either : (i k : ℕ) → eqb i k ≡ eqb k i
eqb_either i k = go (cases_eq i k)
  where
    go : (i ≡ k) ⊎ (i ≡ k → ⊥) → eqb i k ≡ eqb k i
    go (inl e) = rw e
    go (inr e) = ne_eqb i k e ∙ sym (ne_eqb k i (λ d. e (sym d)))

-- a pending state of the plain board is one of the machine
is_pending : (q : TransactionState) (o : Option Place) (n : ℕ) → state_of (phase_of q) o ≡ plain.TransactionState.pending n → q ≡ Pending n
is_pending Open o n e = absurd (let z : ◌≡◌ {A = ℕ} 0 1 = cc in omega arith)
is_pending (Pending i) o n e = let z : i ≡ n = cc in ap Pending z
is_pending Committed o n e = absurd (let z : ◌≡◌ {A = ℕ} 0 1 = cc in omega arith)
is_pending Aborted o n e = absurd (let z : ◌≡◌ {A = ℕ} 0 1 = cc in omega arith)
is_pending GivenUp o n e = absurd (let z : ◌≡◌ {A = ℕ} 0 1 = cc in omega arith)

module _ (b : Machine) (fit : Fit b) (q : Coupled (world_of b)) (eight : length b.stores ≤ 8)
    (k n : ℕ) (l : k < length b.stores) (least : 1 ≤ n) (most : n ≤ length b.sets) (new : applied_of b.sets k n ≡ false) where
  abbrev w : World
  w = world_of b

  abbrev x : SetModel
  x = nth_set b.sets n

  -- its transaction
  abbrev t : ℕ
  t = x.transaction

  abbrev y : Transaction
  y = nth_transaction b.txns t

  x_is : numbered w.sets n ≡ numbered_of x
  x_is = set_is b.sets n

  -- at home the transaction is pending
  waits : x.home ≡ k → y.state ≡ Pending n
  waits h =
      let f = q.orderly.sets n least (omega (arith, as_many_sets b.sets)) in
      let home : (numbered w.sets n).home ≡ k = ap (λ (z : Numbered). z.home) x_is ∙ h in
      let p = f.waits (ap (λ i. w.applied i n) home ∙ new) in
      let is : transaction_of w.bank (entry_of y) ≡ record { home = (numbered w.sets n).home; s = (numbered w.sets n).s; state = plain.TransactionState.pending n } =
      ap (transaction_of w.bank) (sym (entry_is b fit t)) ∙ (sym (transaction_is w t) ∙ (ap (λ (z : Numbered). plain.transaction (world_plain w) z.who) (sym x_is) ∙ p.is)) in
      is_pending y.state (place (store_at w.bank y.home) y.place) n (ap (λ (z : plain.Transaction). z.state) is)

  abbrev marked_sets : List SetModel
  marked_sets = set b.sets (n - 1) (marked_set k x)

  -- the store of k comes to σ and the transactions to T, and n is marked
  came_to : (ms : List StoreModel) (T : List Transaction) (E : List Entry) (σ : Store) → law_bank ms ≡ set w.bank k σ → map entry_of T ≡ E →
      world_of (record { opened = b.opened; start = b.start; stores = ms; txns = T; sets = marked_sets }) ≡ with_applied w k n E σ
  came_to ms T E σ bank entries =
      λ i. record { start = w.start; sets = mark_keeps_sets b.sets k n least most i; applied = mark_is b.sets k n least most fit.marks (omega arith) i; entries = entries i; bank = bank i }

  fit_after : (ms : List StoreModel) (T : List Transaction) → LawfulStores ms → Fit (record { opened = b.opened; start = b.start; stores = ms; txns = T; sets = marked_sets })
  fit_after ms T ok = record { opened = fit.opened; stores = ok; marks = mark_keeps_eight b.sets k n least most fit.marks (omega arith) }

  abbrev settled : List Entry
  settled = set w.entries (t - 1) (in_phase Phase.committed (entry w t))

  plays_home : x.home ≡ k → (σ : Store) → store_commit (store_at w.bank k) (place_of w t) ≡ fine σ → Played (with_applied w k n settled σ) (play_home b k n t)
  plays_home h σ e =
      let r = commits k y.place b.stores fit.stores l σ ((λ i. store_commit (sym (store_is b.stores k) i) (sym (place_is b fit t) i)) ∙ e) in
      let ms = (commit_at k y.place b.stores).after in
      let T = (told b t Applied).txns in
      rw r.answer
      (record { answer = refl; world = came_to ms T settled σ r.bank (entries_moved b fit t Applied (Pending n) Committed (waits h) refl); fit = fit_after ms T r.lawful })

  abbrev p : ℕ
  p = picked first_of_sixteen (store_at w.bank k)

  plays_away : (σ : Store) → store_play x.pairs p (store_at w.bank k) ≡ fine σ → Played (with_applied w k n w.entries σ) (play_away b k n x.pairs)
  plays_away σ e =
      let r = replays k (vacant b.stores k) x.pairs b.stores fit.stores l σ ((λ i. store_play x.pairs (sym (same_place b fit eight k l) i) (sym (store_is b.stores k) i)) ∙ e) in
      let ms = (replay k (vacant b.stores k) x.pairs b.stores).after in
      rw r.answer (record { answer = refl; world = came_to ms b.txns w.entries σ r.bank refl; fit = fit_after ms b.txns r.lawful })

  pub plays : (v : World) → world_play first_of_sixteen k n w ≡ went v → Played v (playing b k n)
  unfolding playing
  plays v = subst (λ (z : Numbered). (e : as_law z ≡ went v) → Played v (play_set b k n x)) (sym x_is) (go (eqb x.home k) refl)
    where
      home_law : ℕ → Went
      home_law who = and_go (store_commit (store_at w.bank k) (place_of w who)) w k (with_applied w k n (set w.entries (who - 1) (in_phase Phase.committed (entry w who))))

      away_law : Pairs → Went
      away_law u = and_go (store_play u p (store_at w.bank k)) w k (with_applied w k n w.entries)

      as_law : Numbered → Went
      as_law z = cond (eqb k z.home) (home_law z.who) (away_law z.pairs)

      go : (c : Bool) → eqb x.home k ≡ c → as_law (numbered_of x) ≡ went v → Played v (play_set b k n x)
      go true d e =
          let r = gone (store_commit (store_at w.bank k) (place_of w t)) w k (with_applied w k n settled) v (rw (sym (eqb_either x.home k) ∙ d) at e) in
          rw d (subst (λ u. Played u (play_home b k n t)) r.2 (plays_home (eqb-true x.home k d) r.0 r.1))
      go false d e =
          let r = gone (store_play x.pairs p (store_at w.bank k)) w k (with_applied w k n w.entries) v (rw (sym (eqb_either x.home k) ∙ d) at e) in
          rw d (subst (λ u. Played u (play_away b k n x.pairs)) r.2 (plays_away r.0 r.1))
