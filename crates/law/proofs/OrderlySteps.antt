-- A plain board stays orderly where write sets are applied, and so at every call.
use Rattle.std.proofs.Common.{◌≡◌, ℕ, zero, suc, ◌-◌, ◌<◌, ◌≤◌, Bool, true, false, cond, not, ◌&&◌, eqb, ◌⊎◌, List, length, set, sym, refl, ap, ◌∙◌, inl, inr, ⊎_elim, arith, length-set}
use Rattle.std.proofs.lemmas.Bool.{and_from, and_parts, both_ways, cases_Bool, eqb-true, lt-ltb, ltb-true, not-false, not-true, or_cases, or_parts}
use Rattle.calls.specs.declared.call.Call.{Call}
use Rattle.calls.specs.declared.call.Call.TheVariants.{Applied, Apply, Begin, Commit, Drain, GiveUp, Read, State, Value, Write, WriteSet}
use Rattle.tickets.specs.Boards.{Board}
use Rattle.tickets.specs.WriteSets.{Pairs, play}
use Rattle.law.specs.Applications.{drained, holds, lacks, marked, on_number, played_at, unless_held}
use Rattle.law.specs.Clashes.{clash}
use Rattle.law.specs.History.Answer.{done, read_only}
use Rattle.law.specs.Numbers.{lowest}
use Rattle.law.specs.Orderly.{Orderly, Pending, TransactionFine}
use Rattle.law.specs.Plain.{Numbered, Outcome, Plain, Transaction, board, busy, in_state, no_transaction, numbered, pairs, transaction, with_transaction}
use Rattle.law.specs.Plain.TransactionState.{aborted, committed, given_up, live, pending}
use Rattle.law.specs.Steps.{step}
use Rattle.law.specs.Transactions.{clashes, verdict}
use Rattle.law.specs.Writes.{is_empty}
use Rattle.law.proofs.Cases.{by_check, by_transaction}
use Rattle.law.proofs.Elements.{at_set, busy_less, marked_more, marked_new}
use Rattle.law.proofs.Numbers.{Found, Lowest, lowest_is, up_to_bounds}
use Rattle.law.proofs.Orderly.{orderly_begun, orderly_ended, orderly_numbered, orderly_wrote, pending_kept}

module _ (p : Plain) (q : Orderly p) where
  abbrev K : ℕ
  K = length p.boards

  abbrev G : ℕ
  G = length p.sets

  -- n is applied at k, where nothing holds it back
  module _ (k n : ℕ) (ln : 1 ≤ n) (mn : n ≤ G) (new : p.applied k n ≡ false) (free : (m : ℕ) → 1 ≤ m → m < n → p.applied k m ≡ false → clash (pairs p.sets m) (pairs p.sets n) ≡ true → ⊥) where
    abbrev A : ℕ → ℕ → Bool
    A = marked k n p.applied

    less : (i o : ℕ) → A i o ≡ false → p.applied i o ≡ false
    less i o e = (or_parts (eqb i k && eqb o n) (p.applied i o) e).1

    which : (i o : ℕ) → A i o ≡ true → ((i ≡ k) × (o ≡ n)) ⊎ (p.applied i o ≡ true)
    which i o e = go (or_cases (eqb i k && eqb o n) (p.applied i o) e)
      where
        go : ((eqb i k && eqb o n) ≡ true) ⊎ (p.applied i o ≡ true) → ((i ≡ k) × (o ≡ n)) ⊎ (p.applied i o ≡ true)
        go (inl d) = let a = and_parts (eqb i k) (eqb o n) d in inl (eqb-true i k a.0, eqb-true o n a.1)
        go (inr d) = inr d

    fine_more : (x : Transaction) → TransactionFine K G p.applied x → TransactionFine K G A x
    fine_more x f = record { home = f.home; saw = f.saw; front = λ b m a c. marked_more k n p.applied x.home m (f.front b m a c); own = f.own }

    played_least : (i o : ℕ) → A i o ≡ true → 1 ≤ o
    played_least i o e = ⊎_elim (λ (d : (i ≡ k) × (o ≡ n)). omega (arith, d.1)) (λ (d : p.applied i o ≡ true). q.least i o d) (which i o e)

    played_most : (i o : ℕ) → A i o ≡ true → o ≤ G
    played_most i o e = ⊎_elim (λ (d : (i ≡ k) × (o ≡ n)). omega (arith, d.1)) (λ (d : p.applied i o ≡ true). q.most i o d) (which i o e)

    played_closed : (i a c : ℕ) → 1 ≤ a → a < c → A i c ≡ true → clash (pairs p.sets a) (pairs p.sets c) ≡ true → A i a ≡ true
    played_closed i a c la lc e s = marked_more k n p.applied i a (go (which i c e))
      where
        go : ((i ≡ k) × (c ≡ n)) ⊎ (p.applied i c ≡ true) → p.applied i a ≡ true
        go (inl d) =
            let f : p.applied k a ≡ true = ⊎_elim (λ (z : p.applied k a ≡ true). z) (λ (z : p.applied k a ≡ false). absurd (free a la (omega (arith, d.1)) z (ap (λ o. clash (pairs p.sets a) (pairs p.sets o)) (sym d.1) ∙ s))) (cases_Bool (p.applied k a)) in
            ap (λ o. p.applied o a) d.0 ∙ f
        go (inr d) = q.closed i a c la lc d s

    boards_long : length (set p.boards k (play (pairs p.sets n) (board p k))) ≡ K
    boards_long = length-set p.boards k (play (pairs p.sets n) (board p k))

    pub orderly_played : Orderly (played_at k n p)
    orderly_played = go (eqb k (numbered p.sets n).home) refl
      where
        t : ℕ
        t = (numbered p.sets n).who

        x : Transaction
        x = in_state committed (transaction p t)

        B : List Board
        B = set p.boards k (play (pairs p.sets n) (board p k))

        after : List Transaction → Plain
        after T = record { start = p.start; sets = p.sets; boards = B; applied = A; transactions = T }

        go : (e : Bool) → eqb k (numbered p.sets n).home ≡ e → Orderly (record { start = p.start; sets = p.sets; boards = B; applied = A; transactions = cond e (set p.transactions (t - 1) x) p.transactions })
        go false e =
            record {
              few = q.few;
              light = q.light;
              least = played_least;
              most = played_most;
              closed = played_closed;
              sets = λ o a c. rw boards_long (let s = q.sets o a c in record { home = s.home; fits = s.fits; below = s.below; valid = s.valid; waits = λ d. s.waits (less (numbered p.sets o).home o d) });
              transactions = λ o a c. rw boards_long (fine_more (transaction p o) (q.transactions o a c));
            }
        go true e =
            record {
              few = q.few;
              light = λ i. let a = busy_less i p.transactions (t - 1) x (omega (arith, d.least, d.most)) refl (λ z. absurd (both_ways false refl z)) in omega (arith, q.light i);
              least = played_least;
              most = played_most;
              closed = played_closed;
              sets = λ o a c. rw boards_long (let s = q.sets o a c in record { home = s.home; fits = s.fits; below = s.below; valid = s.valid; waits = λ g. let u = s.waits (less (numbered p.sets o).home o g) in pending_kept p q t x d.least (numbered p.sets o) o (other o g u) u });
              transactions = λ o a c. rw boards_long (at_set (TransactionFine K G A) no_transaction p.transactions t o x d.least d.most a
                  (λ _. let f = q.transactions t d.least d.most in record { home = f.home; saw = f.saw; front = λ z. absurd (both_ways false refl z); own = tt })
                  (λ _. fine_more (transaction p o) (q.transactions o a (omega (arith, length-set p.transactions (t - 1) x)))));
            }
          where
            is_home : k ≡ (numbered p.sets n).home
            is_home = eqb-true k (numbered p.sets n).home e

            d : Pending p.transactions (numbered p.sets n) n
            d = (q.sets n ln mn).waits (ap (λ v. p.applied v n) (sym is_home) ∙ new)

            other : (o : ℕ) → A (numbered p.sets o).home o ≡ false → Pending p.transactions (numbered p.sets o) o → (numbered p.sets o).who ≡ t → ⊥
            other o g u same =
                let a : transaction p (numbered p.sets o).who ≡ transaction p t = ap (transaction p) same in
                let b : pending o ≡ pending n = ap (λ (z : Transaction). z.state) (sym u.is ∙ (a ∙ d.is)) in
                let c : o ≡ n = cc in
                both_ways (A (numbered p.sets o).home o) g (rw (c, ← is_home) (marked_new k n p.applied))

-- the lowest number that is lacking holds nothing back, since all below it are applied
pub lowest_free : (f : ℕ → Bool) (G r : ℕ) → Found (lacks f) G r → (m : ℕ) → 1 ≤ m → m < r → f m ≡ false → ⊥
lowest_free f G r h m a b e = both_ways (f m) e (not-false (f m) (h.below m a b))

pub orderly_drained : (k m : ℕ) (p : Plain) → Orderly p → Orderly (drained k m p)
orderly_drained k zero p q = q
orderly_drained k (suc m) p q = go (λ r z. orderly_drained k m r z) (lowest (lacks (p.applied k)) (length p.sets)) (lowest_is (lacks (p.applied k)) (length p.sets))
  where
    go : ((r : Plain) → Orderly r → Orderly (drained k m r)) → (n : ℕ) → Lowest (lacks (p.applied k)) (length p.sets) n →
        Orderly (on_number n p (λ i. drained k m (played_at k i p)))
    go ih zero h = q
    go ih (suc n) h = ih (played_at k (suc n) p) (orderly_played p q k (suc n) h.least h.most (not-true (p.applied k (suc n)) h.passes) (λ i a b e _. lowest_free (p.applied k) (length p.sets) (suc n) h i a b e))

-- no clash below: nothing above s shares
pub unclashed : (N : List Numbered) (s : ℕ) (u : Pairs) (G : ℕ) → Lowest (clashes N s u) G zero → (m : ℕ) → s < m → m ≤ G → clash (pairs N m) u ≡ false
unclashed N s u G h m a b = let c = h m (omega arith) b in rw (lt-ltb s m a) at c

-- nothing holds n back at a replica where f is applied
pub unheld : (f : ℕ → Bool) (N : List Numbered) (n : ℕ) → Lowest (holds f N n) (n - 1) zero → (m : ℕ) → 1 ≤ m → m < n → f m ≡ false → clash (pairs N m) (pairs N n) ≡ true → ⊥
unheld f N n h m a b e s = both_ways (holds f N n m) (h m a (omega arith)) (and_from (not (f m)) (clash (pairs N m) (pairs N n)) (rw e) s)

module _ (p : Plain) (q : Orderly p) where
  abbrev Stays : Outcome → Type 0
  Stays o = Orderly o.1

  pub orderly_step : (c : Call) → Orderly (step c p).1
  unfolding step
  orderly_step (Begin k) = by_check Stays _ 1 p _ (λ _. q) (λ e. by_check Stays _ 26 p _ (λ _. q) (λ f. by_check Stays _ 27 p _ (λ _. q) (λ l. by_check Stays _ 28 p _ (λ _. q) (λ _. orderly_begun p q k (ltb-true k (length p.boards) e) f (ltb-true (busy k p.transactions) 15 l)))))
  orderly_step (Read t j) = by_transaction Stays t p _ (λ _. q) (λ b u l m h. by_check Stays _ 3 p _ (λ _. q) (λ _. q))
  orderly_step (Write t j v) = by_transaction Stays t p _ (λ _. q) (λ b u l m h. by_check Stays _ 3 p _ (λ _. q) (λ e. by_check Stays _ 5 p _ (λ _. q) (λ _. by_check Stays _ 30 p _ (λ _. q) (λ r. orderly_wrote p q t j v b u l m h (ltb-true j 128 e) r))))
  orderly_step (Commit t) = by_transaction Stays t p _ (λ _. q) (λ b u l m h. own b u l m h (is_empty u) refl)
    where
      judged : (b : Board) (u : Pairs) → 1 ≤ t → t ≤ length p.transactions → (transaction p t).state ≡ live b u → is_empty u ≡ false → (r : ℕ) →
          Lowest (clashes p.sets (transaction p t).s u) (length p.sets) r → Orderly (verdict r t u p).1
      judged b u l m h e zero c = by_check Stays _ 31 p _ (λ _. q) (λ z. orderly_numbered p q t b u l m h e (ltb-true (length p.sets) 256 z) (unclashed p.sets (transaction p t).s u (length p.sets) c))
      judged b u l m h e (suc r) c = orderly_ended p q t b u aborted l m h refl

      own : (b : Board) (u : Pairs) → 1 ≤ t → t ≤ length p.transactions → (transaction p t).state ≡ live b u → (e : Bool) → is_empty u ≡ e →
          Orderly (cond e (read_only, with_transaction p t (in_state committed (transaction p t))) (verdict (lowest (clashes p.sets (transaction p t).s u) (length p.sets)) t u p)).1
      own b u l m h true e = orderly_ended p q t b u committed l m h refl
      own b u l m h false e = judged b u l m h e (lowest (clashes p.sets (transaction p t).s u) (length p.sets)) (lowest_is (clashes p.sets (transaction p t).s u) (length p.sets))
  orderly_step (GiveUp t) = by_transaction Stays t p _ (λ _. q) (λ b u l m h. orderly_ended p q t b u given_up l m h refl)
  orderly_step (Apply k n) = by_check Stays _ 1 p _ (λ _. q) (λ _. by_check Stays _ 4 p _ (λ _. q) (λ e. by_check Stays _ 32 p _ (λ _. q) (λ c. let b = up_to_bounds (length p.sets) n e in go b.0 b.1 (not-true (p.applied k n) c) (lowest (holds (p.applied k) p.sets n) (n - 1)) (lowest_is (holds (p.applied k) p.sets n) (n - 1)))))
    where
      go : 1 ≤ n → n ≤ length p.sets → p.applied k n ≡ false → (r : ℕ) → Lowest (holds (p.applied k) p.sets n) (n - 1) r →
          Orderly (unless_held r p (done, played_at k n p)).1
      go l m new zero h = orderly_played p q k n l m new (unheld (p.applied k) p.sets n h)
      go l m new (suc r) h = q
  orderly_step (Drain k m) = by_check Stays _ 1 p _ (λ _. q) (λ _. orderly_drained k m p q)
  orderly_step (Value k j) = by_check Stays _ 1 p _ (λ _. q) (λ _. by_check Stays _ 3 p _ (λ _. q) (λ _. q))
  orderly_step (State t) = by_check Stays _ 2 p _ (λ _. q) (λ _. q)
  orderly_step (WriteSet n) = by_check Stays _ 4 p _ (λ _. q) (λ _. q)
  orderly_step (Applied k) = by_check Stays _ 1 p _ (λ _. q) (λ _. q)
