-- The plain board stays as the words of the queue say.
use Rattle.std.proofs.Common.{◌≡◌, ℕ, zero, suc, ◌-◌, ◌<◌, ◌≤◌, Bool, true, false, cond, not, ◌&&◌, ◌||◌, eqb, List, [], ◌∷◌, ◌++◌, length, get_or, set, is_some, Some, None, Option, sym, refl, ap, ◌∙◌, subst, arith, length-set}
use mathlib.Core.Path.{fun_ext}
use Rattle.std.proofs.lemmas.List.{get_or_append_left, get_or_push, get_or-set_other, get_or-set_same, length_push}
use Rattle.std.proofs.lemmas.Bool.{both_ways, eqb-false, eqb-true, ne_eqb, not-true}
use Rattle.tickets.specs.Boards.{Board, value}
use Rattle.tickets.specs.WriteSets.{Pairs, lookup, play}
use Rattle.tickets.proofs.Playing.{length-play, value_play}
use Rattle.law.specs.Applications.{drained, lacks, marked, on_number, played_at}
use Rattle.law.specs.Numbers.{count, lowest, whole}
use Rattle.law.specs.Orderly.{Orderly}
use Rattle.law.specs.Plain.{Numbered, Plain, Transaction, TransactionState, board, in_state, no_set, no_transaction, numbered, pairs, transaction, with_transaction}
use Rattle.law.specs.Plain.TransactionState.{aborted, committed, given_up, live, pending}
use Rattle.law.specs.Transactions.{new_transaction, register, with_begun}
use Rattle.law.specs.Words.{Fact, Facts, begun, given, is_applied, last_write, layers, lowest_few, snapshot, snapshot_of_set, write_set}
use Rattle.law.specs.Writes.{put}
use Rattle.law.proofs.Clashes.{clash_both, clash_from}
use Rattle.law.proofs.Elements.{at_set}
use Rattle.law.proofs.Few.{few_all, few_more, few_none}
use Rattle.law.proofs.Layers.{layers_add, layers_front, layers_same}
use Rattle.law.proofs.Numbers.{Found, Lowest, count_most, exactly_is, lowest_is}
use Rattle.law.proofs.Orderly.{not_yet}
use Rattle.law.proofs.OrderlySteps.{lowest_free, orderly_played}
use Rattle.law.proofs.Writes.{lookup_put}

-- the words of a queue, side by side
pub record Said : Type 0 where
  pub begun : ℕ
  pub given : ℕ
  pub sets : ℕ → ℕ → Option ℕ
  pub applied : ℕ → ℕ → Bool
  pub last : ℕ → ℕ → Option ℕ
  pub saw : ℕ → ℕ
  pub set_saw : ℕ → ℕ

abbrev pub said : Facts → Said
said h = record { begun = begun h; given = given h; sets = write_set h; applied = is_applied h; last = last_write h; saw = snapshot h; set_saw = snapshot_of_set h }

-- a copy, where f says which of the G numbered write sets W are applied
pub record CopyOk (start : Board) (G : ℕ) (W : ℕ → ℕ → Option ℕ) (f : ℕ → Bool) (b : Board) : Type 0 where
  pub long : length b ≡ 128
  pub played : (j : ℕ) → j < 128 → value b j ≡ layers f W (value start) G j

-- the own writes are L, and the snapshot is the board after write sets 1 to s
abbrev pub LiveOk : Board → (ℕ → ℕ → Option ℕ) → (ℕ → Option ℕ) → ℕ → TransactionState → Type 0
LiveOk start W L s (live b u) = ((j : ℕ) → lookup u j ≡ L j) × ((j : ℕ) → j < 128 → value b j ≡ layers (λ _. true) W (value start) s j)
LiveOk start W L s (pending n) = Unit {0}
LiveOk start W L s committed = Unit {0}
LiveOk start W L s aborted = Unit {0}
LiveOk start W L s given_up = Unit {0}

pub record TransactionOk (start : Board) (W : ℕ → ℕ → Option ℕ) (L : ℕ → Option ℕ) (s : ℕ) (x : Transaction) : Type 0 where
  pub saw : x.s ≡ s
  pub own : LiveOk start W L s x.state

-- the plain board is as x says
pub record Kept (start : Board) (K : ℕ) (x : Said) (p : Plain) : Type 0 where
  pub replicas : length p.boards ≡ K
  pub begun : length p.transactions ≡ x.begun
  pub given : length p.sets ≡ x.given
  pub applied : p.applied ≡ x.applied
  pub named : (n : ℕ) → 1 ≤ n → n ≤ x.given → (j : ℕ) → lookup (pairs p.sets n) j ≡ x.sets n j
  pub saw : (n : ℕ) → 1 ≤ n → n ≤ x.given → (numbered p.sets n).s ≡ x.set_saw n
  pub each : (k : ℕ) → k < K → CopyOk start x.given x.sets (x.applied k) (board p k)
  pub transactions : (t : ℕ) → 1 ≤ t → t ≤ length p.transactions → TransactionOk start x.sets (x.last t) (x.saw t) (transaction p t)
  pub later : (t : ℕ) → length p.transactions < t → (j : ℕ) → x.last t j ≡ None

module _ (start : Board) (K : ℕ) (h : Facts) (p : Plain) (q : Kept start K (said h) p) where
  -- a transaction that is open no more, of which nothing is kept but what it saw
  pub kept_ended : (t : ℕ) (e : TransactionState) → 1 ≤ t → t ≤ length p.transactions →
      ((s : ℕ) → LiveOk start (write_set h) (last_write h t) s e) → Kept start K (said h) (with_transaction p t (in_state e (transaction p t)))
  kept_ended t e l m idle =
      record {
        replicas = q.replicas;
        begun = length-set p.transactions (t - 1) y ∙ q.begun;
        given = q.given;
        applied = q.applied;
        named = q.named;
        saw = q.saw;
        each = q.each;
        transactions = λ i x c. at_set (TransactionOk start (write_set h) (last_write h i) (snapshot h i)) no_transaction p.transactions t i y l m x
            (λ d. rw d (record { saw = (q.transactions t l m).saw; own = idle (snapshot h t) }))
            (λ _. q.transactions i x (omega (arith, length-set p.transactions (t - 1) y)));
        later = λ i x. q.later i (omega (arith, length-set p.transactions (t - 1) y));
      }
    where
      y : Transaction
      y = in_state e (transaction p t)

  pub kept_wrote : (t j v : ℕ) (b : Board) (u : Pairs) → 1 ≤ t → t ≤ length p.transactions → (transaction p t).state ≡ live b u →
      Kept start K (said (Fact.wrote t j v ∷ h)) (with_transaction p t (in_state (live b (put j v u)) (transaction p t)))
  kept_wrote t j v b u l m e =
      record {
        replicas = q.replicas;
        begun = length-set p.transactions (t - 1) z ∙ q.begun;
        given = q.given;
        applied = q.applied;
        named = q.named;
        saw = q.saw;
        each = q.each;
        transactions = λ i x y. at i x (omega (arith, length-set p.transactions (t - 1) z)) (eqb i t) refl;
        later = λ i x o. rw (ne_eqb i t (omega (arith, length-set p.transactions (t - 1) z))) (q.later i (omega (arith, length-set p.transactions (t - 1) z)) o);
      }
    where
      z : Transaction
      z = in_state (live b (put j v u)) (transaction p t)

      here : TransactionOk start (write_set h) (λ o. cond (eqb o j) (Some v) (last_write h t o)) (snapshot h t) z
      here =
          let c = q.transactions t l m in
          let own : LiveOk start (write_set h) (last_write h t) (snapshot h t) (live b u) = subst (LiveOk start (write_set h) (last_write h t) (snapshot h t)) e c.own in
          record { saw = c.saw; own = ((λ o. lookup_put j v u o ∙ rw (own.0 o)), own.1) }

      at : (i : ℕ) → 1 ≤ i → i ≤ length p.transactions → (c : Bool) → eqb i t ≡ c →
          TransactionOk start (write_set h) (λ o. cond (c && eqb o j) (Some v) (last_write h i o)) (snapshot h i) (get_or (set p.transactions (t - 1) z) (i - 1) no_transaction)
      at i x y true d = rw (eqb-true i t d, get_or-set_same p.transactions (t - 1) z no_transaction (omega arith)) here
      at i x y false d = rw (get_or-set_other p.transactions (t - 1) (i - 1) z no_transaction (omega (arith, eqb-false i t d))) (q.transactions i x y)

  -- a transaction begins at a whole replica
  pub kept_begun : (k : ℕ) → k < K → whole (p.applied k) (length p.sets) ≡ true → Kept start K (said (Fact.began k (suc (length p.transactions)) ∷ h)) (with_begun k p)
  kept_begun k b e =
      record {
        replicas = q.replicas;
        begun = omega (arith, length_push p.transactions (new_transaction k p), q.begun);
        given = q.given;
        applied = q.applied;
        named = q.named;
        saw = q.saw;
        each = q.each;
        transactions = λ i x y. at i x (omega (arith, length_push p.transactions (new_transaction k p))) (eqb i (suc (length p.transactions))) refl;
        later = λ i x. q.later i (omega (arith, length_push p.transactions (new_transaction k p)));
      }
    where
      r : CopyOk start (given h) (write_set h) (is_applied h k) (board p k)
      r = q.each k b

      no_holes : whole (is_applied h k) (given h) ≡ true
      no_holes = subst (λ (f : ℕ → ℕ → Bool). whole (f k) (given h) ≡ true) q.applied (rw q.given at e)

      sum : count (p.applied k) (length p.sets) ≡ count (is_applied h k) (given h)
      sum = ap (λ (f : ℕ → ℕ → Bool). count (f k) (length p.sets)) q.applied ∙ ap (count (is_applied h k)) q.given

      here : TransactionOk start (write_set h) (last_write h (suc (length p.transactions))) (count (is_applied h k) (given h)) (new_transaction k p)
      here = record { saw = sum; own = ((λ j. sym (q.later (suc (length p.transactions)) (omega arith) j)), (λ j x. r.played j x ∙ layers_front (is_applied h k) (write_set h) (value start) (count (is_applied h k) (given h)) (given h) j (count_most (is_applied h k) (given h)) (exactly_is (is_applied h k) (count (is_applied h k) (given h)) (given h) no_holes))) }

      at : (i : ℕ) → 1 ≤ i → i ≤ suc (length p.transactions) → (c : Bool) → eqb i (suc (length p.transactions)) ≡ c →
          TransactionOk start (write_set h) (last_write h i) (cond c (count (is_applied h k) (given h)) (snapshot h i)) (get_or (p.transactions ++ new_transaction k p ∷ []) (i - 1) no_transaction)
      at i x y true d = rw (get_or_push p.transactions (new_transaction k p) no_transaction (i - 1) (omega (arith, eqb-true i (suc (length p.transactions)) d)), eqb-true i (suc (length p.transactions)) d) here
      at i x y false d = rw (get_or_append_left p.transactions (new_transaction k p ∷ []) no_transaction (i - 1) (omega (arith, eqb-false i (suc (length p.transactions)) d))) (q.transactions i x (omega (arith, eqb-false i (suc (length p.transactions)) d)))

  -- a write set gets its number
  pub kept_numbered : Orderly p → (t : ℕ) (b : Board) (u : Pairs) → 1 ≤ t → t ≤ length p.transactions → (transaction p t).state ≡ live b u →
      Kept start K (said (Fact.numbered t (suc (length p.sets)) ∷ h)) (register t u p)
  kept_numbered ord t b u l m e =
      record {
        replicas = q.replicas;
        begun = length-set p.transactions (t - 1) z ∙ q.begun;
        given = length_push p.sets new ∙ omega (arith, q.given);
        applied = q.applied;
        named = λ i x y j. at i x y j (eqb i (suc (length p.sets))) refl;
        saw = λ i x y. from i x y (eqb i (suc (length p.sets))) refl;
        each = λ k c. let r = q.each k c in record { long = r.long; played = λ j d. r.played j d ∙ (layers_same (is_applied h k) (is_applied h k) (write_set h) V (value start) (given h) j (λ i x y. refl) (λ i x y. sym (old i x y j)) ∙ rw (unapplied k)) };
        transactions = λ i x y. at_set (TransactionOk start V (last_write h i) (snapshot h i)) no_transaction p.transactions t i z l m x
            (λ d. rw d (record { saw = (q.transactions t l m).saw; own = tt }))
            (λ _. let y' : i ≤ length p.transactions = omega (arith, length-set p.transactions (t - 1) z) in let c = q.transactions i x y' in record { saw = c.saw; own = moved (last_write h i) (snapshot h i) (omega (arith, c.saw, (ord.transactions i x y').saw, q.given)) (transaction p i).state c.own });
        later = λ i x. q.later i (omega (arith, length-set p.transactions (t - 1) z));
      }
    where
      z : Transaction
      z = in_state (pending (suc (length p.sets))) (transaction p t)

      new : Numbered
      new = record { who = t; home = (transaction p t).home; s = (transaction p t).s; pairs = u }

      V : ℕ → ℕ → Option ℕ
      V n j = cond (eqb n (suc (length p.sets))) (last_write h t j) (write_set h n j)

      old : (n : ℕ) → 1 ≤ n → n ≤ given h → (j : ℕ) → V n j ≡ write_set h n j
      old n x y j = rw (ne_eqb n (suc (length p.sets)) (omega (arith, q.given)))

      unapplied : (k : ℕ) → is_applied h k (suc (given h)) ≡ false
      unapplied k = ap (λ (f : ℕ → ℕ → Bool). f k (suc (given h))) (sym q.applied) ∙ (ap (λ g. p.applied k (suc g)) (sym q.given) ∙ not_yet p ord k)

      moved : (M : ℕ → Option ℕ) (s : ℕ) → s ≤ given h → (f : TransactionState) → LiveOk start (write_set h) M s f → LiveOk start V M s f
      moved M s y (live c v) o = (o.0, λ j d. o.1 j d ∙ layers_same (λ _. true) (λ _. true) (write_set h) V (value start) s j (λ i x z. refl) (λ i x z. sym (old i x (omega arith) j)))
      moved M s y (pending n) o = tt
      moved M s y committed o = tt
      moved M s y aborted o = tt
      moved M s y given_up o = tt

      own : LiveOk start (write_set h) (last_write h t) (snapshot h t) (live b u)
      own = subst (LiveOk start (write_set h) (last_write h t) (snapshot h t)) e (q.transactions t l m).own

      from : (i : ℕ) → 1 ≤ i → i ≤ suc (given h) → (c : Bool) → eqb i (suc (length p.sets)) ≡ c →
          (numbered (p.sets ++ new ∷ []) i).s ≡ cond c (snapshot h t) (snapshot_of_set h i)
      from i x y true d = rw (get_or_push p.sets new no_set (i - 1) (omega (arith, eqb-true i (suc (length p.sets)) d))) (q.transactions t l m).saw
      from i x y false d = rw (get_or_append_left p.sets (new ∷ []) no_set (i - 1) (omega (arith, q.given, eqb-false i (suc (length p.sets)) d))) (q.saw i x (omega (arith, q.given, eqb-false i (suc (length p.sets)) d)))

      at : (i : ℕ) → 1 ≤ i → i ≤ suc (given h) → (j : ℕ) → (c : Bool) → eqb i (suc (length p.sets)) ≡ c →
          lookup (get_or (p.sets ++ new ∷ []) (i - 1) no_set).pairs j ≡ cond c (last_write h t j) (write_set h i j)
      at i x y j true d = rw (get_or_push p.sets new no_set (i - 1) (omega (arith, eqb-true i (suc (length p.sets)) d))) (own.0 j)
      at i x y j false d = rw (get_or_append_left p.sets (new ∷ []) no_set (i - 1) (omega (arith, q.given, eqb-false i (suc (length p.sets)) d))) (q.named i x (omega (arith, q.given, eqb-false i (suc (length p.sets)) d)) j)

  -- n is applied at k: what is applied there above n does not clash with it, so it is as if it were played in its turn
  pub kept_played : Orderly p → (k n : ℕ) → k < K → 1 ≤ n → n ≤ given h → is_applied h k n ≡ false → Kept start K (said (Fact.applied k n ∷ h)) (played_at k n p)
  kept_played ord k n b l m new =
      record {
        replicas = length-set p.boards k after ∙ q.replicas;
        begun = as_long (eqb k (numbered p.sets n).home) ∙ q.begun;
        given = q.given;
        applied = ap (marked k n) q.applied;
        named = q.named;
        saw = q.saw;
        each = λ i x. at i x (eqb i k) refl;
        transactions = λ i x y. settled i x (eqb k (numbered p.sets n).home) y;
        later = λ i x. q.later i (omega (arith, as_long (eqb k (numbered p.sets n).home)));
      }
    where
      t : ℕ
      t = (numbered p.sets n).who

      closing : List Transaction
      closing = set p.transactions (t - 1) (in_state committed (transaction p t))

      after : Board
      after = play (pairs p.sets n) (board p k)

      above : (j i : ℕ) → n < i → i ≤ given h → is_applied h k i ≡ true → is_some (write_set h n j) ≡ true → is_some (write_set h i j) ≡ true → ⊥
      above j i x y z c d =
          let e : (o : ℕ) → p.applied k o ≡ is_applied h k o = λ o. ap (λ (f : ℕ → ℕ → Bool). f k o) q.applied in
          let g = clash_from (pairs p.sets n) (pairs p.sets i) (j, clash_both (lookup (pairs p.sets n) j) (lookup (pairs p.sets i) j) (ap is_some (q.named n l m j) ∙ c) (ap is_some (q.named i (omega arith) y j) ∙ d)) in
          both_ways (is_applied h k n) new (sym (e n) ∙ ord.closed k n i l x (e i ∙ z) g)

      here : CopyOk start (given h) (write_set h) (λ i. eqb i n || is_applied h k i) after
      here =
          let r = q.each k b in
          record {
            long = length-play (pairs p.sets n) (board p k) ∙ r.long;
            played = λ j d. value_play (pairs p.sets n) (board p k) j (omega (arith, r.long)) ∙ rw (q.named n l m j, r.played j d) (sym (layers_add (is_applied h k) (write_set h) (value start) n j (given h) m l (above j)));
          }

      at : (i : ℕ) → i < K → (e : Bool) → eqb i k ≡ e → CopyOk start (given h) (write_set h) (λ o. e && eqb o n || is_applied h i o) (get_or (set p.boards k after) i [])
      at i x true d = rw (eqb-true i k d, get_or-set_same p.boards k after [] (omega (arith, q.replicas))) here
      at i x false d = rw (get_or-set_other p.boards k i after [] (eqb-false i k d)) (q.each i x)

      as_long : (e : Bool) → length (cond e closing p.transactions) ≡ length p.transactions
      as_long true = length-set p.transactions (t - 1) (in_state committed (transaction p t))
      as_long false = refl

      ended_ok : (M : ℕ → Option ℕ) (s : ℕ) (T : List Transaction) (i o : ℕ) → TransactionOk start (write_set h) M s (get_or T o no_transaction) →
          TransactionOk start (write_set h) M s (get_or (set T i (in_state committed (get_or T i no_transaction))) o no_transaction)
      ended_ok M s [] i o c = c
      ended_ok M s (x ∷ T) zero zero c = record { saw = c.saw; own = tt }
      ended_ok M s (x ∷ T) zero (suc o) c = c
      ended_ok M s (x ∷ T) (suc i) zero c = c
      ended_ok M s (x ∷ T) (suc i) (suc o) c = ended_ok M s T i o c

      settled : (i : ℕ) → 1 ≤ i → (e : Bool) → i ≤ length (cond e closing p.transactions) →
          TransactionOk start (write_set h) (last_write h i) (snapshot h i) (get_or (cond e closing p.transactions) (i - 1) no_transaction)
      settled i x true y = ended_ok (last_write h i) (snapshot h i) p.transactions (t - 1) (i - 1) (q.transactions i x (omega (arith, as_long true)))
      settled i x false y = q.transactions i x y

-- queues that differ in what is applied alone
abbrev with_applied_by : Facts → (ℕ → ℕ → Bool) → Said
with_applied_by h A = record { begun = begun h; given = given h; sets = write_set h; applied = A; last = last_write h; saw = snapshot h; set_saw = snapshot_of_set h }

same_said : (h : Facts) (A B : ℕ → ℕ → Bool) → ((i o : ℕ) → A i o ≡ B i o) → with_applied_by h A ≡ with_applied_by h B
same_said h A B e = ap (with_applied_by h) (fun_ext (λ i. fun_ext (λ o. e i o)))

-- the lowest m of those that are lacking at k are applied there
pub kept_drained : (start : Board) (K k m : ℕ) → k < K → (h : Facts) (p : Plain) → Orderly p → Kept start K (said h) p → Kept start K (said (Fact.drained k m ∷ h)) (drained k m p)
kept_drained start K k zero b h p ord q = subst (λ (x : Said). Kept start K x p) (same_said h (is_applied h) (is_applied (Fact.drained k 0 ∷ h)) (λ i o. same i o (eqb i k))) q
  where
    same : (i o : ℕ) (e : Bool) → is_applied h i o ≡ (e && lowest_few (is_applied h i) (given h) 0 o || is_applied h i o)
    same i o true = sym (few_none (is_applied h i) (given h) o)
    same i o false = refl
kept_drained start K k (suc m) b h p ord q = go (λ f r z u. kept_drained start K k m b f r z u) (lowest (lacks (p.applied k)) (length p.sets)) (lowest_is (lacks (p.applied k)) (length p.sets))
  where
    is : (i : ℕ) → p.applied k i ≡ is_applied h k i
    is i = ap (λ (f : ℕ → ℕ → Bool). f k i) q.applied

    go : ((f : Facts) (r : Plain) → Orderly r → Kept start K (said f) r → Kept start K (said (Fact.drained k m ∷ f)) (drained k m r)) → (r : ℕ) →
        Lowest (lacks (p.applied k)) (length p.sets) r →
        Kept start K (said (Fact.drained k (suc m) ∷ h)) (on_number r p (λ n. drained k m (played_at k n p)))
    go ih zero l = subst (λ (x : Said). Kept start K x p) (same_said h (is_applied h) (is_applied (Fact.drained k (suc m) ∷ h)) (λ i o. same i o (eqb i k) refl)) q
      where
        same : (i o : ℕ) (e : Bool) → eqb i k ≡ e → is_applied h i o ≡ (e && lowest_few (is_applied h i) (given h) (suc m) o || is_applied h i o)
        same i o true d = rw (eqb-true i k d) (sym (few_all (is_applied h k) (given h) (suc m) (λ x y z. ap not (sym (is x)) ∙ l x y (omega (arith, q.given))) o))
        same i o false d = refl
    go ih (suc r) l =
        subst (λ (x : Said). Kept start K x (drained k m (played_at k (suc r) p))) (same_said h (is_applied (Fact.drained k m ∷ Fact.applied k (suc r) ∷ h)) (is_applied (Fact.drained k (suc m) ∷ h)) (λ i o. same i o (eqb i k) refl))
        (ih (Fact.applied k (suc r) ∷ h) (played_at k (suc r) p)
        (orderly_played p ord k (suc r) l.least l.most (not-true (p.applied k (suc r)) l.passes) (λ i a c e _. lowest_free (p.applied k) (length p.sets) (suc r) l i a c e))
        (kept_played start K h p q ord k (suc r) b found.least found.most (not-true (is_applied h k (suc r)) found.passes)))
      where
        found : Found (λ i. not (is_applied h k i)) (given h) (suc r)
        found = record { least = l.least; most = omega (arith, l.most, q.given); passes = ap not (sym (is (suc r))) ∙ l.passes; below = λ x y z. ap not (sym (is x)) ∙ l.below x y z }

        same : (i o : ℕ) (e : Bool) → eqb i k ≡ e →
            (e && lowest_few (λ x. e && eqb x (suc r) || is_applied h i x) (given h) m o || (e && eqb o (suc r) || is_applied h i o)) ≡ (e && lowest_few (is_applied h i) (given h) (suc m) o || is_applied h i o)
        same i o true d = rw (eqb-true i k d) (few_more (is_applied h k) (suc r) (given h) m found o)
        same i o false d = refl
