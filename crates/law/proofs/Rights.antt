-- Every call of the plain board is answered right by the words of the queue.
use Rattle.std.proofs.Common.{◌≡◌, ℕ, zero, suc, ◌+◌, ◌-◌, ◌<◌, ◌≤◌, min, Bool, true, false, cond, not, ◌||◌, ltb, List, [], ◌∷◌, length, is_some, None, Option, sym, refl, ap, ◌∙◌, subst, ⊎_elim, arith}
use Rattle.std.proofs.lemmas.Bool.{and_from, and_parts, both_ways, cases_lt, eq-eqb, lt-ltb, ltb-false, ltb-true, not-false, not-true}
use Rattle.calls.specs.declared.call.Call.{Call}
use Rattle.calls.specs.declared.call.Call.TheVariants.{Applied, Apply, Begin, Commit, Drain, GiveUp, Read, State, Value, Write, WriteSet}
use Rattle.tickets.specs.Boards.{Board, value}
use Rattle.tickets.specs.WriteSets.{Pairs, lookup, over}
use Rattle.law.specs.Applications.{holds, lacks, played_at, unless_held}
use Rattle.law.specs.Clashes.{Clashing, clash}
use Rattle.law.specs.History.Answer.{done, read_only, refused, told, values}
use Rattle.law.specs.History.Event.{event}
use Rattle.law.specs.Law.{Clash, HoldsBack, Passes, Right, lacking}
use Rattle.law.specs.Numbers.{count, lowest, up_to}
use Rattle.law.specs.Orderly.{Orderly}
use Rattle.law.specs.Plain.{Numbered, Outcome, Plain, TransactionState, in_state, numbered, pairs, transaction, with_transaction}
use Rattle.law.specs.Plain.TransactionState.{aborted, committed, given_up, live}
use Rattle.law.specs.Steps.{applied_values, state_values, step}
use Rattle.law.specs.Transactions.{clashes, verdict}
use Rattle.law.specs.Words.{Fact, Facts, begun, fact, given, is_applied, last_write, lowest_few, noted, snapshot, value_after, write_set}
use Rattle.law.specs.Writes.{is_empty, listed}
use Rattle.law.proofs.Cases.{by_check, by_transaction}
use Rattle.law.proofs.Clashes.{clash_from, clash_some, clashing_same}
use Rattle.law.proofs.Few.{few_count}
use Rattle.law.proofs.Kept.{Kept, LiveOk, kept_begun, kept_drained, kept_ended, kept_numbered, kept_played, kept_wrote, said}
use Rattle.law.proofs.Numbers.{Lowest, count_same, lowest_is, up_to_bounds, up_to_from}
use Rattle.law.proofs.Writes.{empty_none, some_object}

abbrev pub KeptBy : Board → ℕ → Facts → Plain → Type 0
KeptBy start K h p = Kept start K (said h) p

pub record Good (start : Board) (K : ℕ) (h : Facts) (c : Call) (o : Outcome) : Type 0 where
  pub kept : KeptBy start K (noted (fact (event c o.0)) h) o.1
  pub right : Right start K h (event c o.0)

module _ (start : Board) (K : ℕ) (h : Facts) (p : Plain) (ord : Orderly p) (q : KeptBy start K h p) where
  abbrev N : List Numbered
  N = p.sets

  abbrev Fair : Call → Outcome → Type 0
  Fair c o = Good start K h c o

  applied_is : (k n : ℕ) → p.applied k n ≡ is_applied h k n
  applied_is k n = ap (λ (f : ℕ → ℕ → Bool). f k n) q.applied

  own_is : (t : ℕ) (b : Board) (u : Pairs) → 1 ≤ t → t ≤ length p.transactions → (transaction p t).state ≡ live b u →
      LiveOk start (write_set h) (last_write h t) (snapshot h t) (live b u)
  own_is t b u l m e = subst (LiveOk start (write_set h) (last_write h t) (snapshot h t)) e (q.transactions t l m).own

  good_begin : (k : ℕ) → Good start K h (Begin k) (step (Begin k) p)
  unfolding step
  good_begin k =
      by_check (Fair (Begin k)) _ 1 p _ (λ _. no 1) (λ e. by_check (Fair (Begin k)) _ 26 p _ (λ _. no 26) (λ d. by_check (Fair (Begin k)) _ 27 p _ (λ _. no 27) (λ _. by_check (Fair (Begin k)) _ 28 p _ (λ _. no 28)
      (λ _. record { kept = kept_begun start K h p q k (omega (arith, ltb-true k (length p.boards) e, q.replicas)) d; right = λ t c. next t c }))))
    where
      next : (t : ℕ) → told (suc (length p.transactions)) ≡ told t → t ≡ suc (begun h)
      next t c = let d : suc (length p.transactions) ≡ t = cc in omega (arith, q.begun)

      no : (n : ℕ) → Good start K h (Begin k) (refused n [], p)
      no n = record { kept = q; right = λ t c. absurd (let z : ◌≡◌ {A = ℕ} 0 1 = cc in omega arith) }

  good_read : (t j : ℕ) → Good start K h (Read t j) (step (Read t j) p)
  unfolding step
  good_read t j = by_transaction (Fair (Read t j)) t p _ no (λ b u l m e. by_check (Fair (Read t j)) _ 3 p _ (λ _. no 3) (λ d. record { kept = q; right = λ _. right b u (own_is t b u l m e) (ltb-true j 128 d) }))
    where
      no : (n : ℕ) → Good start K h (Read t j) (refused n [], p)
      no n = record { kept = q; right = λ e. absurd (both_ways false refl e) }

      right : (b : Board) (u : Pairs) → LiveOk start (write_set h) (last_write h t) (snapshot h t) (live b u) → j < 128 →
          told (over (lookup u j) (value b j)) ≡ told (over (last_write h t j) (value_after start h (snapshot h t) j))
      right b u o d = let c : value b j ≡ value_after start h (snapshot h t) j = o.1 j d in rw (o.0 j, c)

  good_write : (t j v : ℕ) → Good start K h (Write t j v) (step (Write t j v) p)
  unfolding step
  good_write t j v =
      by_transaction (Fair (Write t j v)) t p _ no (λ b u l m e. by_check (Fair (Write t j v)) _ 3 p _ (λ _. no 3) (λ _. by_check (Fair (Write t j v)) _ 5 p _ (λ _. no 5) (λ _. by_check (Fair (Write t j v)) _ 30 p _ (λ _. no 30)
      (λ _. record { kept = kept_wrote start K h p q t j v b u l m e; right = tt }))))
    where
      no : (n : ℕ) → Good start K h (Write t j v) (refused n [], p)
      no n = record { kept = q; right = tt }

  kept_idle : (t : ℕ) (e : TransactionState) → 1 ≤ t → t ≤ length p.transactions → ((s : ℕ) → LiveOk start (write_set h) (last_write h t) s e) →
      KeptBy start K h (with_transaction p t (in_state e (transaction p t)))
  kept_idle t e l m idle = kept_ended start K h p q t e l m idle

  good_giveUp : (t : ℕ) → Good start K h (GiveUp t) (step (GiveUp t) p)
  unfolding step
  good_giveUp t = by_transaction (Fair (GiveUp t)) t p _ (λ n. record { kept = q; right = tt }) (λ b u l m e. record { kept = kept_idle t given_up l m (λ _. tt); right = tt })

  -- the clashes of the plain board are the queue's
  to_words : (u : Pairs) (n : ℕ) (L : ℕ → Option ℕ) → ((j : ℕ) → lookup u j ≡ L j) → 1 ≤ n → n ≤ given h → clash (pairs N n) u ≡ true → Clashing (write_set h n) L
  to_words u n L own l m e = clashing_same (lookup (pairs N n)) (lookup u) (write_set h n) L (q.named n l m) own (clash_some (pairs N n) u e)

  from_words : (u : Pairs) (n : ℕ) (L : ℕ → Option ℕ) → ((j : ℕ) → lookup u j ≡ L j) → 1 ≤ n → n ≤ given h → Clashing (write_set h n) L → clash (pairs N n) u ≡ true
  from_words u n L own l m s = clash_from (pairs N n) u (clashing_same (write_set h n) L (lookup (pairs N n)) (lookup u) (λ j. sym (q.named n l m j)) (λ j. sym (own j)) s)

  good_commit : (t : ℕ) → Good start K h (Commit t) (step (Commit t) p)
  unfolding step
  good_commit t = by_transaction (Fair (Commit t)) t p _ no (λ b u l m e. own b u l m e (is_empty u) refl)
    where
      no : (n : ℕ) → Good start K h (Commit t) (refused n [], p)
      no n = record { kept = q; right = tt }

      -- a clash of the plain board is one of the queue's, and the other way round
      clash_of : (u : Pairs) → ((j : ℕ) → lookup u j ≡ last_write h t j) → (transaction p t).s ≡ snapshot h t → (m : ℕ) → 1 ≤ m → m ≤ given h →
          clashes N (transaction p t).s u m ≡ true → Clash h t m
      clash_of u o saw m x y e = let a = and_parts (ltb (transaction p t).s m) (clash (pairs N m) u) e in record { later = omega (arith, ltb-true (transaction p t).s m a.0); given = y; clashing = to_words u m (last_write h t) o x y a.1 }

      clashed : (u : Pairs) → ((j : ℕ) → lookup u j ≡ last_write h t j) → (transaction p t).s ≡ snapshot h t → (m : ℕ) → Clash h t m → clashes N (transaction p t).s u m ≡ true
      clashed u o saw m c = and_from (ltb (transaction p t).s m) (clash (pairs N m) u) (lt-ltb (transaction p t).s m (omega (arith, c.later))) (from_words u m (last_write h t) o (omega (arith, c.later)) c.given c.clashing)

      judged : (b : Board) (u : Pairs) → 1 ≤ t → t ≤ length p.transactions → (transaction p t).state ≡ live b u → is_empty u ≡ false → (r : ℕ) →
          Lowest (clashes N (transaction p t).s u) (length N) r → Good start K h (Commit t) (verdict r t u p)
      judged b u l m e full zero f =
          let o = own_is t b u l m e in
          let found = some_object u full in
          by_check (Fair (Commit t)) _ 31 p _ (λ _. no 31)
          (λ _. record {
            kept = kept_numbered start K h p q ord t b u l m e;
            right = (ap suc q.given, (λ i c. both_ways (clashes N (transaction p t).s u i) (f i (omega (arith, c.later)) (omega (arith, c.given, q.given))) (clashed u o.0 (q.transactions t l m).saw i c)), (found.0, ap is_some (sym (o.0 found.0)) ∙ found.1));
          })
      judged b u l m e full (suc r) f =
          let o = own_is t b u l m e in
          record {
            kept = kept_idle t aborted l m (λ _. tt);
            right = (
              clash_of u o.0 (q.transactions t l m).saw (suc r) f.least (omega (arith, f.most, q.given)) f.passes,
              (λ i c. ⊎_elim (λ (z : i < suc r). absurd (both_ways (clashes N (transaction p t).s u i) (f.below i (omega (arith, c.later)) z) (clashed u o.0 (q.transactions t l m).saw i c))) (λ (z : suc r ≤ i). z) (cases_lt i (suc r))),
            );
          }

      own : (b : Board) (u : Pairs) → 1 ≤ t → t ≤ length p.transactions → (transaction p t).state ≡ live b u → (c : Bool) → is_empty u ≡ c →
          Good start K h (Commit t) (cond c (read_only, with_transaction p t (in_state committed (transaction p t))) (verdict (lowest (clashes N (transaction p t).s u) (length N)) t u p))
      own b u l m e true z = record { kept = kept_idle t committed l m (λ _. tt); right = λ j. sym ((own_is t b u l m e).0 j) ∙ empty_none u j z }
      own b u l m e false z = judged b u l m e z (lowest (clashes N (transaction p t).s u) (length N)) (lowest_is (clashes N (transaction p t).s u) (length N))

  good_drain : (k m : ℕ) → Good start K h (Drain k m) (step (Drain k m) p)
  unfolding step
  good_drain k m =
      by_check (Fair (Drain k m)) _ 1 p _
      (λ e. record { kept = q; right = record { through = λ b. absurd (omega (arith, ltb-false k (length p.boards) e, q.replicas)); checked = λ z. absurd (both_ways false refl z); grows = λ r z. absurd (let o : ◌≡◌ {A = ℕ} 0 1 = cc in omega arith) } })
      (λ e. let b : k < K = omega (arith, ltb-true k (length p.boards) e, q.replicas) in
      record { kept = kept_drained start K k m b h p ord q; right = record { through = λ _. ap (λ n. told (min m n)) lacked; checked = λ _. b; grows = λ r z. let o : min m (count (lacks (p.applied k)) (length N)) ≡ r = cc in omega (arith, grown, lacked, o) } })
    where
      lacked : count (lacks (p.applied k)) (length N) ≡ lacking h k
      lacked = ap (λ (f : ℕ → ℕ → Bool). count (lacks (f k)) (length N)) q.applied ∙ ap (count (lacks (is_applied h k))) q.given

      grown : count (is_applied (Fact.drained k m ∷ h) k) (given h) ≡ count (is_applied h k) (given h) + min m (lacking h k)
      grown = count_same (is_applied (Fact.drained k m ∷ h) k) (λ i. lowest_few (is_applied h k) (given h) m i || is_applied h k i) (given h) (λ i _ _. rw (eq-eqb k k refl)) ∙ few_count (is_applied h k) (given h) m (given h) (omega arith)

  good_apply : (k n : ℕ) → Good start K h (Apply k n) (step (Apply k n) p)
  unfolding step
  good_apply k n =
      by_check (Fair (Apply k n)) _ 1 p _ (λ e. no 1 (omega arith) (λ a. omega (arith, ltb-false k (length p.boards) e, q.replicas, a.replica)))
      (λ e. by_check (Fair (Apply k n)) _ 4 p _ (λ d. no 4 (omega arith) (λ a. both_ways (up_to (length N) n) d (up_to_from (length N) n a.least (omega (arith, a.given, q.given)))))
      (λ d. let b = up_to_bounds (length N) n d in
      let i : k < K = omega (arith, ltb-true k (length p.boards) e, q.replicas) in
      by_check (Fair (Apply k n)) _ 32 p _ (λ c. no 32 (omega arith) (λ a. both_ways (is_applied h k n) a.new (sym (applied_is k n) ∙ not-false (p.applied k n) c)))
      (λ c. free i b.0 (omega (arith, b.1, q.given)) (sym (applied_is k n) ∙ not-true (p.applied k n) c) (lowest (holds (p.applied k) N n) (n - 1)) (lowest_is (holds (p.applied k) N n) (n - 1)))))
    where
      no : (r : ℕ) → (r ≡ 33 → ⊥) → (Passes K h k n → ⊥) → Good start K h (Apply k n) (refused r [], p)
      no r other f = record { kept = q; right = record { through = λ a. absurd (f a); checked = λ z. absurd (both_ways false refl z); held = λ vs e. absurd (let z : r ≡ 33 = cc in other z) } }

      free : k < K → 1 ≤ n → n ≤ given h → is_applied h k n ≡ false → (r : ℕ) → Lowest (holds (p.applied k) N n) (n - 1) r →
          Good start K h (Apply k n) (unless_held r p (done, played_at k n p))
      free i x y new r l = go r l
        where
          -- what holds n back on the plain board holds it back in the queue's words, and the other way round
          held : (m : ℕ) → 1 ≤ m → m < n → holds (p.applied k) N n m ≡ true → HoldsBack h k n m
          held m a b e =
              let c = and_parts (lacks (p.applied k) m) (clash (pairs N m) (pairs N n)) e in
              record { least = a; lower = b; lacking = sym (applied_is k m) ∙ not-true (p.applied k m) c.0; clashing = to_words (pairs N n) m (write_set h n) (q.named n x y) a (omega arith) c.1 }

          holding : (m : ℕ) → HoldsBack h k n m → holds (p.applied k) N n m ≡ true
          holding m c = and_from (lacks (p.applied k) m) (clash (pairs N m) (pairs N n)) (ap not (applied_is k m ∙ c.lacking)) (from_words (pairs N n) m (write_set h n) (q.named n x y) c.least (omega (arith, c.lower)) c.clashing)

          go : (r : ℕ) → Lowest (holds (p.applied k) N n) (n - 1) r → Good start K h (Apply k n) (unless_held r p (done, played_at k n p))
          go zero f =
              let passes : Passes K h k n = record { replica = i; least = x; given = y; new = new; free = λ m c. both_ways (holds (p.applied k) N n m) (f m c.least (omega (arith, c.lower))) (holding m c) } in
              record { kept = kept_played start K h p q ord k n i x y new; right = record { through = λ _. refl; checked = λ _. passes; held = λ vs e. absurd (let z : ◌≡◌ {A = ℕ} 0 1 = cc in omega arith) } }
          go (suc r) f =
              let this : HoldsBack h k n (suc r) = held (suc r) f.least (omega (arith, f.most)) f.passes in
              let lowest_one : (m : ℕ) → HoldsBack h k n m → suc r ≤ m = λ m c. ⊎_elim (λ (z : m < suc r). absurd (both_ways (holds (p.applied k) N n m) (f.below m c.least z) (holding m c))) (λ (z : suc r ≤ m). z) (cases_lt m (suc r)) in
              record { kept = q; right = record { through = λ a. absurd (a.free (suc r) this); checked = λ z. absurd (both_ways false refl z); held = λ vs e. (suc r, (let z : vs ≡ suc r ∷ [] = cc in z), this, lowest_one) } }

  good_asked : (c : Call) (n : ℕ) → fact (event c (refused n [])) ≡ None → Right start K h (event c (refused n [])) → Good start K h c (refused n [], p)
  good_asked c n e r = record { kept = rw e q; right = r }

  good_askValue : (k j : ℕ) → Good start K h (Value k j) (step (Value k j) p)
  unfolding step
  good_askValue k j =
      by_check (Fair (Value k j)) _ 1 p _ (λ _. good_asked (Value k j) 1 refl (λ z. absurd (both_ways false refl z))) (λ e. by_check (Fair (Value k j)) _ 3 p _ (λ _. good_asked (Value k j) 3 refl (λ z. absurd (both_ways false refl z)))
      (λ d. record { kept = q; right = λ _. ap told ((q.each k (omega (arith, ltb-true k (length p.boards) e, q.replicas))).played j (ltb-true j 128 d)) }))

  good_askState : (t : ℕ) → Good start K h (State t) (step (State t) p)
  unfolding step
  good_askState t =
      by_check (Fair (State t)) _ 2 p _ (λ _. good_asked (State t) 2 refl (λ z. absurd (both_ways false refl z)))
      (λ e. let b = up_to_bounds (length p.transactions) t e in record { kept = q; right = λ _. (state_values (transaction p t).state, ap (λ n. values (n ∷ state_values (transaction p t).state)) (q.transactions t b.0 b.1).saw) })

  good_askSet : (n : ℕ) → Good start K h (WriteSet n) (step (WriteSet n) p)
  unfolding step
  good_askSet n =
      by_check (Fair (WriteSet n)) _ 4 p _ (λ _. good_asked (WriteSet n) 4 refl (λ z. absurd (both_ways false refl z)))
      (λ e. let b = up_to_bounds (length N) n e in record { kept = q; right = λ _. ((numbered N n).home, pairs N n, ap (λ s. values ((numbered N n).home ∷ s ∷ listed (pairs N n))) (q.saw n b.0 (omega (arith, b.1, q.given))), q.named n b.0 (omega (arith, b.1, q.given))) })

  good_askApplied : (k : ℕ) → Good start K h (Applied k) (step (Applied k) p)
  unfolding step
  good_askApplied k =
      by_check (Fair (Applied k)) _ 1 p _ (λ _. good_asked (Applied k) 1 refl (λ z. absurd (both_ways false refl z)))
      (λ _. record { kept = q; right = λ _. ap (λ (f : ℕ → ℕ → Bool). values (applied_values (f k) (length N))) q.applied ∙ ap (λ n. values (applied_values (is_applied h k) n)) q.given })

  pub good : (c : Call) → Good start K h c (step c p)
  good (Begin k) = good_begin k
  good (Read t j) = good_read t j
  good (Write t j v) = good_write t j v
  good (Commit t) = good_commit t
  good (GiveUp t) = good_giveUp t
  good (Apply k n) = good_apply k n
  good (Drain k m) = good_drain k m
  good (Value k j) = good_askValue k j
  good (State t) = good_askState t
  good (WriteSet n) = good_askSet n
  good (Applied k) = good_askApplied k
