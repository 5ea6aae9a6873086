-- The calls of an open transaction over a coupled bank are the plain board's.
use Rattle.std.proofs.Common.{◌≡◌, ℕ, zero, suc, ◌+◌, ◌-◌, ◌<◌, ◌≤◌, Bool, true, false, cond, ltb, List, [], length, set, Some, None, Option, sym, refl, ap, ◌∙◌, subst, arith, length-set}
use Rattle.std.proofs.lemmas.List.{get_or-set_other, get_or-set_same, set-get_or}
use Rattle.std.proofs.lemmas.Bool.{both_ways, lt-ltb, ltb-true}
use Rattle.tickets.specs.Boards.{Board, value}
use Rattle.tickets.specs.WriteSets.{Pairs, lookup, over}
use Rattle.law.specs.Coupled.{Coupled, Held}
use Rattle.law.specs.History.{Answer}
use Rattle.law.specs.History.Answer.{aborts, done, read_only, refused, told}
use Rattle.law.specs.Numbers.{lowest, up_to}
use Rattle.law.specs.Orderly.{Orderly}
use Rattle.law.specs.Plain.{Outcome, Plain, Transaction, TransactionState, check, in_state, is_busy, on_live, on_transaction, transaction, with_transaction}
use Rattle.law.specs.Store.{Place, Store, open_count, own_of, place, snapshot_of, store_abort, store_commit, store_own, store_read, store_write, with_place, writes}
use Rattle.law.specs.Store.Done.{failed, fine}
use Rattle.law.specs.Store.Got.{got}
use Rattle.law.specs.Store.Owned.{owns}
use Rattle.law.specs.Transactions.{clashes, commit_of, give_up_of, read_of, register, verdict, write_of}
use Rattle.law.specs.World.{Entry, Phase, World, entry, home_of, in_phase, is_working, no_entry, place_of, state_of, with_bank, with_entry, with_number, world_plain}
use Rattle.law.specs.WorldSteps.{Result, on_entry, on_fine, on_phase, test, world_commit, world_give_up, world_read, world_verdict, world_write, write_answer}
use Rattle.law.specs.Writes.{is_empty, put, room}
use Rattle.law.proofs.Couplings.{coupled_entry, coupled_number, plain_entry, plain_number}
use Rattle.law.proofs.Numbers.{Lowest, bit, lowest_is, up_to_bounds}
use Rattle.law.proofs.Orderly.{orderly_ended, orderly_numbered, orderly_wrote}
use Rattle.law.proofs.OrderlySteps.{unclashed}
use Rattle.law.proofs.Places.{open_set, some_within}
use Rattle.law.proofs.Stores.{writes_one}
use Rattle.law.proofs.Worlds.{replicas, transaction_is, transactions_length}

-- a result that is the plain board's
pub record Matches (o : Outcome) (r : Result) : Type 0 where
  pub answer : r.0 ≡ o.0
  pub after : world_plain r.1 ≡ o.1
  pub coupled : Coupled r.1

module _ (w : World) (q : Coupled w) where
  abbrev p : Plain
  p = world_plain w

  pub unchanged : (a : Answer) → Matches (a, p) (a, w)
  unchanged a = record { answer = refl; after = refl; coupled = q }

  -- a change that is the plain board's
  pub changed : (a : Answer) (o : Plain) (v : World) → world_plain v ≡ o → Orderly o → (Orderly (world_plain v) → Coupled v) → Matches (a, o) (a, v)
  changed a o v e ord s = record { answer = refl; after = e; coupled = s (subst Orderly (sym e) ord) }

  pub by_test : (b c : Bool) (n : ℕ) (o : Outcome) (r : Result) → b ≡ c → (b ≡ true → Matches o r) → Matches (check b n p o) (test c n w r)
  unfolding check test
  by_test true true n o r e f = f refl
  by_test true false n o r e f = absurd (both_ways true e refl)
  by_test false true n o r e f = absurd (both_ways false refl e)
  by_test false false n o r e f = unchanged (refused n [])

  pub at_replica : (k : ℕ) (o : Outcome) (r : Result) → (k < length w.bank → Matches o r) →
      Matches (check (ltb k (length p.boards)) 1 p o) (test (ltb k (length w.bank)) 1 w r)
  at_replica k o r f = by_test _ _ 1 o r (ap (ltb k) (replicas w)) (λ e. f (omega (arith, ltb-true k (length p.boards) e, replicas w)))

  abbrev pub spot : ℕ → Option Place
  spot t = place (home_of w t) (place_of w t)

  s_is : (t : ℕ) → (transaction p t).s ≡ (entry w t).s
  s_is t = ap (λ (x : Transaction). x.s) (transaction_is w t)

  live_is : (t : ℕ) → (entry w t).phase ≡ Phase.live → (transaction p t).state ≡ TransactionState.live (snapshot_of (spot t)) (own_of (spot t))
  live_is t ph = ap (λ (x : Transaction). x.state) (transaction_is w t) ∙ ap (λ f. state_of f (spot t)) ph

  pub by_entry : (t : ℕ) (f : Board → Pairs → Outcome) (r : Result) →
      (1 ≤ t → t ≤ length w.entries → (entry w t).phase ≡ Phase.live → Matches (f (snapshot_of (spot t)) (own_of (spot t))) r) →
      Matches (on_transaction t p f) (on_entry t w r)
  by_entry t f r g =
      by_test _ _ 2 _ _ (ap (λ n. up_to n t) (transactions_length w))
      (λ e. let b = up_to_bounds (length p.transactions) t e in
      let is : (transaction p t).state ≡ state_of (entry w t).phase (spot t) = ap (λ (x : Transaction). x.state) (transaction_is w t) in
      subst (λ (s : TransactionState). Matches (on_live s p f) (on_phase (entry w t).phase w r)) (sym is) (phased b.0 (omega (arith, b.1, transactions_length w)) (entry w t).phase refl))
    where
      phased : 1 ≤ t → t ≤ length w.entries → (e : Phase) → (entry w t).phase ≡ e → Matches (on_live (state_of e (spot t)) p f) (on_phase e w r)
      phased l m Phase.live e = g l m e
      phased l m (Phase.pending n) e = unchanged (refused 29 [])
      phased l m Phase.committed e = unchanged (refused 29 [])
      phased l m Phase.aborted e = unchanged (refused 29 [])
      phased l m Phase.given_up e = unchanged (refused 29 [])

  -- an open transaction
  module _ (t : ℕ) (l : 1 ≤ t) (m : t ≤ length w.entries) (ph : (entry w t).phase ≡ Phase.live) where
    bt : is_working (entry w t).phase ≡ true
    bt = ap is_working ph

    d : Held w.sets (w.applied (entry w t).home) (home_of w t) (entry w t)
    d = q.held t l m bt

    m' : t ≤ length p.transactions
    m' = omega (arith, transactions_length w)

    inside : place_of w t < length (home_of w t).places
    inside = some_within (home_of w t).places (place_of w t) d.here d.is

    abbrev freed : Store
    freed = with_place (home_of w t) (place_of w t) None

    follows_ended : (e : Phase) (s : TransactionState) (a : Answer) → ((o : Option Place) → state_of e o ≡ s) → is_working e ≡ false →
        is_busy s ≡ false → Matches (a, with_transaction p t (in_state s (transaction p t))) (a, with_entry w t e freed)
    follows_ended e s a is idle rest =
        changed a (with_transaction p t (in_state s (transaction p t))) (with_entry w t e freed)
        (plain_entry w q t l m bt e freed other refl ∙ ap (λ (z : TransactionState). with_transaction p t (in_state z (transaction p t))) (is (place freed (place_of w t))))
        (orderly_ended p q.orderly t (snapshot_of (spot t)) (own_of (spot t)) s l m' (live_is t ph) rest)
        (λ ord. coupled_entry w q t l m bt e freed other ord refl refl (length-set (home_of w t).places (place_of w t) None) opens (λ b. absurd (both_ways (is_working e) idle b)))
      where
        other : (i : ℕ) → (i ≡ place_of w t → ⊥) → place freed i ≡ place (home_of w t) i
        other i n = get_or-set_other (home_of w t).places (place_of w t) i None None n

        opens : open_count freed.places + 1 ≡ open_count (home_of w t).places + bit (is_working e)
        opens = let a = open_set (home_of w t).places (place_of w t) None inside in rw idle (omega (arith, rw d.is at a))

    aborts_at : store_abort (home_of w t) (place_of w t) ≡ fine freed
    aborts_at = rw (lt-ltb (place_of w t) (length (home_of w t).places) inside, d.is)

    pub follows_read : (j : ℕ) → Matches (read_of j p (snapshot_of (spot t)) (own_of (spot t))) (world_read t j w)
    follows_read j = by_test _ _ 3 _ _ refl (λ e. rw (is e) (unchanged (told (over (lookup (own_of (spot t)) j) (value (snapshot_of (spot t)) j)))))
      where
        is : ltb j 128 ≡ true → store_read (home_of w t) (place_of w t) j ≡ got (over (lookup (own_of (spot t)) j) (value (snapshot_of (spot t)) j))
        is e = rw (lt-ltb (place_of w t) (length (home_of w t).places) inside, d.is, e)

    pub follows_write : (j v : ℕ) → Matches (write_of t j v p (snapshot_of (spot t)) (own_of (spot t))) (world_write t j v w)
    unfolding check
    follows_write j v = by_test _ _ 3 _ _ refl (λ e. by_test _ _ 5 _ _ refl (λ _. last (ltb-true j 128 e) (room j (own_of (spot t))) refl))
      where
        τ : Store
        τ = with_place (home_of w t) (place_of w t) (Some (writes j v d.here))

        own : own_of (spot t) ≡ d.here.own
        own = ap own_of d.is

        other : (i : ℕ) → (i ≡ place_of w t → ⊥) → place τ i ≡ place (home_of w t) i
        other i n = get_or-set_other (home_of w t).places (place_of w t) i (Some (writes j v d.here)) None n

        here : place τ (place_of w t) ≡ Some (writes j v d.here)
        here = get_or-set_same (home_of w t).places (place_of w t) (Some (writes j v d.here)) None inside

        as_bank : with_entry w t Phase.live τ ≡ with_bank w (set w.bank (entry w t).home τ)
        as_bank = ap (λ (T : List Entry). record { start = w.start; sets = w.sets; applied = w.applied; entries = T; bank = set w.bank (entry w t).home τ }) (ap (λ (f : Phase). set w.entries (t - 1) (in_phase f (entry w t))) (sym ph) ∙ set-get_or w.entries (t - 1) no_entry)

        wrote : TransactionState
        wrote = TransactionState.live (snapshot_of (spot t)) (put j v (own_of (spot t)))

        wrote_is : state_of Phase.live (place τ (place_of w t)) ≡ wrote
        wrote_is = rw (here, d.is)

        opens : open_count τ.places + 1 ≡ open_count (home_of w t).places + 1
        opens = let a = open_set (home_of w t).places (place_of w t) (Some (writes j v d.here)) inside in omega (arith, rw d.is at a)

        last : j < 128 → (b : Bool) → room j (own_of (spot t)) ≡ b →
            Matches (check b 30 p (done, with_transaction p t (in_state wrote (transaction p t)))) (write_answer (store_write (home_of w t) (place_of w t) j v) w (entry w t).home)
        last e true r =
            let space : room j d.here.own ≡ true = ap (room j) (sym own) ∙ r in
            rw (writes_one (home_of w t) (place_of w t) d.here j v d.is e space)
            (subst (λ (v : World). Matches (done, with_transaction p t (in_state wrote (transaction p t))) (done, v)) as_bank
            (changed done (with_transaction p t (in_state wrote (transaction p t))) (with_entry w t Phase.live τ)
            (plain_entry w q t l m bt Phase.live τ other refl ∙ ap (λ (z : TransactionState). with_transaction p t (in_state z (transaction p t))) wrote_is)
            (orderly_wrote p q.orderly t j v (snapshot_of (spot t)) (own_of (spot t)) l m' (live_is t ph) e r)
            (λ ord. coupled_entry w q t l m bt Phase.live τ other ord refl refl (length-set (home_of w t).places (place_of w t) (Some (writes j v d.here))) opens
            (λ _. record { here = writes j v d.here; is = here; own = λ n z. absurd (let o : ◌≡◌ {A = ℕ} 0 1 = cc in omega arith); passed = d.passed }))))
        last e false r =
            let space : room j d.here.own ≡ false = ap (room j) (sym own) ∙ r in
            let full : store_write (home_of w t) (place_of w t) j v ≡ failed 30 (home_of w t) = rw (lt-ltb (place_of w t) (length (home_of w t).places) inside, d.is, lt-ltb j 128 e, space) in
            rw full (unchanged (refused 30 []))

    pub follows_commit : Matches (commit_of t p (snapshot_of (spot t)) (own_of (spot t))) (world_commit t (own_of (spot t)) w)
    unfolding d
    follows_commit = subst (λ s. Matches (cond (is_empty u) (read_only, with_transaction p t (in_state TransactionState.committed (transaction p t))) (verdict (lowest (clashes w.sets s u) (length w.sets)) t u p)) (world_commit t u w)) (sym (s_is t)) (own (is_empty u) refl)
      where
        u : Pairs
        u = own_of (spot t)

        reads_only : is_empty u ≡ true → store_commit (home_of w t) (place_of w t) ≡ fine freed
        reads_only e = rw (lt-ltb (place_of w t) (length (home_of w t).places) inside, d.is, ap is_empty (sym (ap own_of d.is)) ∙ e)

        judged : is_empty u ≡ false → (r : ℕ) → Lowest (clashes w.sets (entry w t).s u) (length w.sets) r → Matches (verdict r t u p) (world_verdict r t u w)
        judged e zero h =
            by_test _ _ 31 _ _ refl (λ c. changed (told (suc (length w.sets))) (register t u p) (with_number w t u)
            (plain_number w q t l m bt u (sym (ap own_of d.is)))
            (orderly_numbered p q.orderly t (snapshot_of (spot t)) u l m' (live_is t ph) e (ltb-true (length w.sets) 256 c) (λ o a b. unclashed w.sets (entry w t).s u (length w.sets) h o (omega (arith, s_is t)) b))
            (coupled_number w q t l m bt u (sym (ap own_of d.is))))
        judged e (suc r) h = rw aborts_at (follows_ended Phase.aborted TransactionState.aborted (aborts (suc r)) (λ _. refl) refl refl)

        own : (b : Bool) → is_empty u ≡ b →
            Matches (cond b (read_only, with_transaction p t (in_state TransactionState.committed (transaction p t))) (verdict (lowest (clashes w.sets (entry w t).s u) (length w.sets)) t u p)) (cond b (on_fine (store_commit (home_of w t) (place_of w t)) w (entry w t).home (λ σ. (read_only, with_entry w t Phase.committed σ))) (world_verdict (lowest (clashes w.sets (entry w t).s u) (length w.sets)) t u w))
        own true e = rw (reads_only e) (follows_ended Phase.committed TransactionState.committed read_only (λ _. refl) refl refl)
        own false e = judged e (lowest (clashes w.sets (entry w t).s u) (length w.sets)) (lowest_is (clashes w.sets (entry w t).s u) (length w.sets))

    pub owns_at : store_own (home_of w t) (place_of w t) ≡ owns (own_of (spot t))
    owns_at = rw (lt-ltb (place_of w t) (length (home_of w t).places) inside, d.is)

    pub follows_give_up : Matches (give_up_of t p (snapshot_of (spot t)) (own_of (spot t))) (world_give_up t w)
    follows_give_up = rw aborts_at (follows_ended Phase.given_up TransactionState.given_up done (λ _. refl) refl refl)
