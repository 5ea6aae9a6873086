-- Begin, apply and drain over a coupled bank are the plain board's, and so is every call.
use Rattle.std.proofs.Common.{◌≡◌, ℕ, zero, suc, ◌-◌, ◌<◌, ◌≤◌, Bool, true, false, ◌||◌, eqb, ltb, ◌⊎◌, List, [], ◌∷◌, length, set, is_some, Some, None, Option, sym, refl, ap, ◌∙◌, subst, inl, inr, arith, length-set}
use Rattle.std.proofs.lemmas.Bool.{both_ways, cases_order, eqb-true, ltb-true, not-true}
use Rattle.calls.specs.declared.call.Call.{Call}
use Rattle.calls.specs.declared.call.Call.TheVariants.{Applied, Apply, Begin, Commit, Drain, GiveUp, Read, State, Value, Write, WriteSet}
use Rattle.tickets.specs.Boards.{Board, value}
use Rattle.tickets.specs.WriteSets.{Pairs, lookup, play, stands}
use Rattle.law.specs.Applications.{drained, holds, lacks, on_number, played_at, unless_held}
use Rattle.law.specs.Clashes.{clash}
use Rattle.law.specs.Coupled.{Coupled, Held}
use Rattle.law.specs.History.Answer.{done, refused, told, values}
use Rattle.law.specs.Numbers.{lowest, up_to, whole}
use Rattle.law.specs.Opening.{store_at}
use Rattle.law.specs.Orderly.{Orderly, Pending, SetFine}
use Rattle.law.specs.Plain.{Plain, Transaction, TransactionState, board, busy, numbered, pairs}
use Rattle.law.specs.Steps.{applied_values, set_values, state_values, step}
use Rattle.law.specs.Store.{Place, Store, fresh, is_overtaken, place, store_begin, store_commit, store_play, with_place}
use Rattle.law.specs.Store.Done.{fine}
use Rattle.law.specs.Transactions.{with_begun}
use Rattle.law.specs.World.{Phase, Picks, World, entry, home_of, in_phase, is_working, picked, place_of, state_of, transaction_of, with_applied, with_begin, working, world_plain}
use Rattle.law.specs.WorldSteps.{Went, answered, on_fine, on_lowest, phase_values, then_go, unless_holds, world_drained, world_play, world_step}
use Rattle.law.specs.WorldSteps.Went.{went}
use Rattle.law.specs.Writes.{is_empty}
use Rattle.law.proofs.Clashes.{clash_both, clash_from}
use Rattle.law.proofs.Couplings.{coupled_begin, plain_begin}
use Rattle.law.proofs.CouplingsApplied.{coupled_away, coupled_home, plain_away, plain_home}
use Rattle.law.proofs.Numbers.{Lowest, count_add, count_most, lowest_is, up_to_bounds}
use Rattle.law.proofs.Orderly.{orderly_begun}
use Rattle.law.proofs.OrderlySteps.{lowest_free, orderly_played, unheld}
use Rattle.law.proofs.Places.{picked_shut}
use Rattle.law.proofs.Simulated.{Matches, at_replica, by_entry, by_test, follows_commit, follows_give_up, follows_read, follows_write, owns_at, spot, unchanged}
use Rattle.law.proofs.Stores.{Played, begins, commits, overtaken_free, plays}
use Rattle.law.proofs.Worlds.{board_is, replicas, transaction_is, transactions_length, working_busy}
use Rattle.law.proofs.Writes.{set_fine, set_full}

module _ (w : World) (q : Coupled w) where
  abbrev p : Plain
  p = world_plain w

  module _ (pick : List Bool → ℕ) (picks : Picks pick) where
    -- open or pending transactions are at most 15, so a place is free
    free_place : (k : ℕ) → k < length w.bank →
        (picked pick (store_at w.bank k) < length (store_at w.bank k).places) × (place (store_at w.bank k) (picked pick (store_at w.bank k)) ≡ None)
    free_place k b =
        let s = q.stores k b in
        let a : working k w.entries ≤ 15 = rw (← (working_busy w.bank k w.entries)) (q.orderly.light k) in
        picked_shut pick picks (store_at w.bank k) s.places (omega (arith, s.opens))

    follows_begin : (k : ℕ) → Matches (step (Begin k) p) (world_step pick (Begin k) w)
    unfolding step world_step
    follows_begin k =
        at_replica w q k _ _ (λ b. by_test w q _ _ 26 _ _ refl (λ f. by_test w q _ _ 27 _ _ (ap (λ n. ltb n 15) (working_busy w.bank k w.entries)) (λ y. by_test w q _ _ 28 _ _ (ap (λ n. ltb n 512) (transactions_length w)) (λ _. last b f (ltb-true (busy k p.transactions) 15 y)))))
      where
        σ : Store
        σ = store_at w.bank k

        τ : Store
        τ = with_place σ (picked pick σ) (Some (fresh σ.board))

        last : k < length w.bank → whole (w.applied k) (length w.sets) ≡ true → busy k p.transactions < 15 →
            Matches (told (suc (length p.transactions)), with_begun k p) (on_fine (store_begin σ (picked pick σ)) w k (λ s. (told (suc (length w.entries)), with_begin pick w k s)))
        last b f y =
            let u = free_place k b in
            let ord = orderly_begun p q.orderly k (omega (arith, replicas w)) f y in
            let e = plain_begin w q pick k b u.0 u.1 in
            rw (begins σ (picked pick σ) u.0 u.1) (record { answer = ap (λ n. told (suc n)) (sym (transactions_length w)); after = e; coupled = coupled_begin w q pick k b u.0 u.1 (subst Orderly (sym e) ord) })

    -- what came of an application: a world, with the plain board and the soundness that it has
    abbrev Goes : Went → Plain → Type 0
    Goes g o = (v : World) × (g ≡ went v) × (world_plain v ≡ o) × Coupled v

    -- the store plays n, and nothing refuses it
    goes_play : (k n : ℕ) → k < length w.bank → 1 ≤ n → n ≤ length w.sets → w.applied k n ≡ false →
        ((m : ℕ) → 1 ≤ m → m < n → w.applied k m ≡ false → clash (pairs w.sets m) (pairs w.sets n) ≡ true → ⊥) →
        Goes (world_play pick k n w) (played_at k n p)
    goes_play k n b l m new free = go (eqb k (numbered w.sets n).home) refl
      where
        σ : Store
        σ = store_at w.bank k

        t : ℕ
        t = (numbered w.sets n).who

        f : SetFine (length p.boards) w.sets w.applied p.transactions (numbered w.sets n) n
        f = q.orderly.sets n l m

        ord : Orderly (played_at k n p)
        ord = orderly_played p q.orderly k n l m new free

        room_left : σ.commits < σ.most
        room_left = let s = q.stores k b in omega (arith, s.commits, s.most, q.orderly.few, count_add (w.applied k) n new l (length w.sets) m, count_most (λ i. eqb i n || w.applied k i) (length w.sets))

        -- what has overtaken the place shares nothing with n
        sound : (j o : ℕ) → (numbered w.sets n).s < o → w.applied k o ≡ true → is_some (lookup (pairs w.sets o) j) ≡ true → is_some (lookup (pairs w.sets n) j) ≡ true → ⊥
        sound j o a c x y = by (cases_order o n)
          where
            by : (o ≡ n) ⊎ ((o < n) ⊎ (n < o)) → ⊥
            by (inl e) = both_ways (w.applied k n) new (ap (w.applied k) (sym e) ∙ c)
            by (inr (inl e)) = both_ways (clash (pairs w.sets o) (pairs w.sets n)) (f.valid o a e) (clash_from (pairs w.sets o) (pairs w.sets n) (j, clash_both (lookup (pairs w.sets o) j) (lookup (pairs w.sets n) j) x y))
            by (inr (inr e)) = both_ways (w.applied k n) new (q.orderly.closed k n o l e c (clash_from (pairs w.sets n) (pairs w.sets o) (j, clash_both (lookup (pairs w.sets n) j) (lookup (pairs w.sets o) j) y x)))

        at_home : eqb k (numbered w.sets n).home ≡ true → Goes (world_play pick k n w) (played_at k n p)
        at_home e =
            (with_applied w k n (set w.entries (t - 1) (in_phase Phase.committed (entry w t))) y.0, rw (e, y.1), same, coupled_home w q k n b l m new (place_of w t) y.0 played e z.least most bt home refl (subst Orderly (sym same) ord))
          where
            is_home : k ≡ (numbered w.sets n).home
            is_home = eqb-true k (numbered w.sets n).home e

            z : Pending p.transactions (numbered w.sets n) n
            z = f.waits (ap (λ v. w.applied v n) (sym is_home) ∙ new)

            most : t ≤ length w.entries
            most = omega (arith, z.most, transactions_length w)

            is : transaction_of w.bank (entry w t) ≡ record { home = (numbered w.sets n).home; s = (numbered w.sets n).s; state = TransactionState.pending n }
            is = sym (transaction_is w t) ∙ z.is

            home : (entry w t).home ≡ k
            home = ap (λ (x : Transaction). x.home) is ∙ sym is_home

            waiting : (e : Phase) (o : Option Place) → state_of e o ≡ TransactionState.pending n → e ≡ Phase.pending n
            waiting Phase.live o h = absurd (let c : ◌≡◌ {A = ℕ} 0 1 = cc in omega arith)
            waiting (Phase.pending i) o h = let c : i ≡ n = cc in ap Phase.pending c
            waiting Phase.committed o h = absurd (let c : ◌≡◌ {A = ℕ} 0 1 = cc in omega arith)
            waiting Phase.aborted o h = absurd (let c : ◌≡◌ {A = ℕ} 0 1 = cc in omega arith)
            waiting Phase.given_up o h = absurd (let c : ◌≡◌ {A = ℕ} 0 1 = cc in omega arith)

            ph : (entry w t).phase ≡ Phase.pending n
            ph = waiting (entry w t).phase (place (store_at w.bank (entry w t).home) (entry w t).place) (ap (λ (x : Transaction). x.state) is)

            bt : is_working (entry w t).phase ≡ true
            bt = ap is_working ph

            d : Held w.sets (w.applied (entry w t).home) (home_of w t) (entry w t)
            d = q.held t z.least most bt

            own : d.here.own ≡ pairs w.sets n
            own = (d.own n ph).2

            at : place σ (place_of w t) ≡ Some d.here
            at = ap (λ v. place (store_at w.bank v) (place_of w t)) (sym home) ∙ d.is

            clear : is_overtaken d.here.own d.here.overtaken ≡ false
            clear = overtaken_free d.here.own d.here.overtaken (λ j a c. let r = d.passed j c in sound j r.0 (omega (arith, r.1, ap (λ (x : Transaction). x.s) is)) (ap (λ v. w.applied v r.0) (sym home) ∙ r.2) r.3 (ap (λ u. stands u j) (sym own) ∙ a))

            y : (τ : Store) × (store_commit σ (place_of w t) ≡ fine τ) × Played σ d.here.own (place_of w t) τ
            y = commits σ (place_of w t) d.here at (ap is_empty own ∙ set_full (pairs w.sets n) f.fits) clear room_left

            played : Played σ (pairs w.sets n) (place_of w t) y.0
            played = subst (λ (u : Pairs). Played σ u (place_of w t) y.0) own y.2

            same : world_plain (with_applied w k n (set w.entries (t - 1) (in_phase Phase.committed (entry w t))) y.0) ≡ played_at k n p
            same = plain_home w q k n b l m new (place_of w t) y.0 played e z.least most bt home refl

        away : eqb k (numbered w.sets n).home ≡ false → Goes (world_play pick k n w) (played_at k n p)
        away e = (with_applied w k n w.entries y.0, rw (e, y.1), same, coupled_away w q k n b l m new (picked pick σ) y.0 y.2 e u.1 (subst Orderly (sym same) ord))
          where
            u : (picked pick σ < length σ.places) × (place σ (picked pick σ) ≡ None)
            u = free_place k b

            y : (τ : Store) × (store_play (pairs w.sets n) (picked pick σ) σ ≡ fine τ) × Played σ (pairs w.sets n) (picked pick σ) τ
            y = plays σ (picked pick σ) (pairs w.sets n) u.0 u.1 (set_fine (pairs w.sets n) f.fits) (set_full (pairs w.sets n) f.fits) room_left

            same : world_plain (with_applied w k n w.entries y.0) ≡ played_at k n p
            same = plain_away w q k n b l m new (picked pick σ) y.0 y.2 e u.1

        go : (e : Bool) → eqb k (numbered w.sets n).home ≡ e → Goes (world_play pick k n w) (played_at k n p)
        go true e = at_home e
        go false e = away e

    follows_apply : (k n : ℕ) → Matches (step (Apply k n) p) (world_step pick (Apply k n) w)
    unfolding step world_step
    follows_apply k n =
        at_replica w q k _ _ (λ b. by_test w q _ _ 4 _ _ refl (λ d. by_test w q _ _ 32 _ _ refl (λ c. let a = up_to_bounds (length w.sets) n d in go b a.0 a.1 (not-true (w.applied k n) c) (lowest (holds (w.applied k) w.sets n) (n - 1)) (lowest_is (holds (w.applied k) w.sets n) (n - 1)))))
      where
        go : k < length w.bank → 1 ≤ n → n ≤ length w.sets → w.applied k n ≡ false → (r : ℕ) →
            Lowest (holds (w.applied k) w.sets n) (n - 1) r →
            Matches (unless_held r p (done, played_at k n p)) (unless_holds r w (answered done (world_play pick k n w)))
        go b l m new zero h = let y = goes_play k n b l m new (unheld (w.applied k) w.sets n h) in rw y.1 (record { answer = refl; after = y.2; coupled = y.3 })
        go b l m new (suc r) h = unchanged w q (refused 33 (suc r ∷ []))

goes_drained : (pick : List Bool → ℕ) (picks : Picks pick) (k m : ℕ) (w : World) (q : Coupled w) → k < length w.bank →
    Goes w q pick picks (world_drained pick k m w) (drained k m (world_plain w))
goes_drained pick picks k zero w q b = (w, refl, refl, q)
goes_drained pick picks k (suc m) w q b = go (λ v z c. goes_drained pick picks k m v z c) (lowest (lacks (w.applied k)) (length w.sets)) (lowest_is (lacks (w.applied k)) (length w.sets))
  where
    go : ((v : World) (z : Coupled v) → k < length v.bank → Goes v z pick picks (world_drained pick k m v) (drained k m (world_plain v))) →
        (r : ℕ) → Lowest (lacks (w.applied k)) (length w.sets) r →
        Goes w q pick picks (on_lowest r w (λ n. then_go (world_play pick k n w) (world_drained pick k m))) (on_number r (world_plain w) (λ n. drained k m (played_at k n (world_plain w))))
    go ih zero h = (w, refl, refl, q)
    go ih (suc r) h =
        let y = goes_play w q pick picks k (suc r) b h.least h.most (not-true (w.applied k (suc r)) h.passes) (λ i a c e _. lowest_free (w.applied k) (length w.sets) (suc r) h i a c e) in
        let x = ih y.0 y.3 (still y.0 y.2) in
        (x.0, rw y.1 x.1, x.2 ∙ ap (drained k m) y.2, x.3)
      where
        still : (v : World) → world_plain v ≡ played_at k (suc r) (world_plain w) → k < length v.bank
        still v e = omega (arith, ap (λ (o : Plain). length o.boards) e, replicas v, replicas w, length-set (world_plain w).boards k (play (pairs w.sets (suc r)) (board (world_plain w) k)))

-- the listing of a state needs nothing of the place
same_values : (f : Phase) (o : Option Place) → phase_values f ≡ state_values (state_of f o)
same_values Phase.live o = refl
same_values (Phase.pending n) o = refl
same_values Phase.committed o = refl
same_values Phase.aborted o = refl
same_values Phase.given_up o = refl

pub every_world_call : (pick : List Bool → ℕ) → Picks pick → (c : Call) (w : World) → Coupled w → Matches (step c (world_plain w)) (world_step pick c w)
unfolding step world_step
every_world_call pick picks (Begin k) w q = follows_begin w q pick picks k
every_world_call pick picks (Read t j) w q = by_entry w q t _ _ (λ l m ph. follows_read w q t l m ph j)
every_world_call pick picks (Write t j v) w q = by_entry w q t _ _ (λ l m ph. follows_write w q t l m ph j v)
every_world_call pick picks (Commit t) w q = by_entry w q t _ _ (λ l m ph. rw (owns_at w q t l m ph) (follows_commit w q t l m ph))
every_world_call pick picks (GiveUp t) w q = by_entry w q t _ _ (λ l m ph. follows_give_up w q t l m ph)
every_world_call pick picks (Apply k n) w q = follows_apply w q pick picks k n
every_world_call pick picks (Drain k m) w q =
    at_replica w q k _ _ (λ b. let y = goes_drained pick picks k m w q b in
    rw y.1 (record { answer = refl; after = y.2; coupled = y.3 }))
every_world_call pick picks (Value k j) w q = at_replica w q k _ _ (λ _. by_test w q _ _ 3 _ _ refl (λ _. record { answer = ap (λ (b : Board). told (value b j)) (sym (board_is w k)); after = refl; coupled = q }))
every_world_call pick picks (State t) w q =
    by_test w q _ _ 2 _ _ (ap (λ n. up_to n t) (transactions_length w))
    (λ _. record { answer = ap (λ (l : List ℕ). values ((entry w t).s ∷ l)) (same_values (entry w t).phase (spot w q t)) ∙ ap (λ (x : Transaction). values (x.s ∷ state_values x.state)) (sym (transaction_is w t)); after = refl; coupled = q })
every_world_call pick picks (WriteSet n) w q = by_test w q _ _ 4 _ _ refl (λ _. unchanged w q (values (set_values (numbered w.sets n))))
every_world_call pick picks (Applied k) w q = at_replica w q k _ _ (λ _. unchanged w q (values (applied_values (w.applied k) (length w.sets))))
