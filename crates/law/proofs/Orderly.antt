-- A plain board stays orderly where transactions begin, write, end and are numbered.
use Rattle.std.proofs.Common.{◌≡◌, ℕ, suc, ◌+◌, ◌-◌, ◌<◌, ◌≤◌, Bool, true, false, ◌&&◌, eqb, [], ◌∷◌, ◌++◌, length, set, sym, refl, ap, ◌∙◌, subst, ⊎_elim, arith, length-set}
use Rattle.std.proofs.lemmas.List.{get_or_append_left, get_or-set_other, get_or-set_same, length_push}
use Rattle.std.proofs.lemmas.Bool.{both_ways, cases_Bool, eqb-true, le-leb}
use Rattle.tickets.specs.Boards.{Board}
use Rattle.tickets.specs.WriteSets.{Pairs}
use Rattle.law.specs.Clashes.{clash}
use Rattle.law.specs.Numbers.{count, whole}
use Rattle.law.specs.Orderly.{Fine, Orderly, OwnFine, Pending, SetFine, TransactionFine}
use Rattle.law.specs.Plain.{Numbered, Plain, Transaction, TransactionState, busy, busy_at, in_state, is_busy, no_set, no_transaction, numbered, pairs, transaction, with_transaction}
use Rattle.law.specs.Plain.TransactionState.{aborted, committed, given_up, live, pending}
use Rattle.law.specs.Transactions.{new_transaction, register, with_begun}
use Rattle.law.specs.Writes.{is_empty, put, room}
use Rattle.law.proofs.Elements.{at_push, at_set, busy_less}
use Rattle.law.proofs.Numbers.{bit, count_most, exactly_is, tally_push}
use Rattle.law.proofs.Writes.{fine_set, put_fine}

-- an ended transaction has no own writes
idle_fine : (e : TransactionState) → is_busy e ≡ false → OwnFine e
idle_fine (live b u) h = absurd (both_ways true h refl)
idle_fine (pending n) h = tt
idle_fine committed h = tt
idle_fine aborted h = tt
idle_fine given_up h = tt

pub live_busy : (e : TransactionState) (b : Board) (u : Pairs) → e ≡ live b u → is_busy e ≡ true
live_busy e b u h = ap is_busy h

module _ (p : Plain) (q : Orderly p) where
  abbrev K : ℕ
  K = length p.boards

  abbrev G : ℕ
  G = length p.sets

  -- no number is applied before it is given
  pub not_yet : (k : ℕ) → p.applied k (suc G) ≡ false
  not_yet k = ⊎_elim (λ (e : p.applied k (suc G) ≡ true). absurd (omega (arith, q.most k (suc G) e))) (λ (e : p.applied k (suc G) ≡ false). e) (cases_Bool (p.applied k (suc G)))

  -- another transaction is changed
  pub pending_kept : (t : ℕ) (x : Transaction) → 1 ≤ t → (y : Numbered) (n : ℕ) → (y.who ≡ t → ⊥) → Pending p.transactions y n → Pending (set p.transactions (t - 1) x) y n
  pending_kept t x l y n f d =
      record { least = d.least; most = omega (arith, d.most, length-set p.transactions (t - 1) x); is = get_or-set_other p.transactions (t - 1) (y.who - 1) x no_transaction (omega (arith, d.least)) ∙ d.is }

  -- a pending transaction is not open
  not_live : (t : ℕ) (b : Board) (u : Pairs) → (transaction p t).state ≡ live b u → (y : Numbered) (n : ℕ) → Pending p.transactions y n → y.who ≡ t → ⊥
  not_live t b u h y n d e =
      let a : (transaction p t).state ≡ pending n = ap (λ i. (transaction p i).state) (sym e) ∙ ap (λ (x : Transaction). x.state) d.is in
      let z : ◌≡◌ {A = ℕ} 0 1 = cc in
      omega arith

  -- an open transaction t is changed, and stays at home
  orderly_changed : (t : ℕ) (b : Board) (u : Pairs) (x : Transaction) → 1 ≤ t → t ≤ length p.transactions → (transaction p t).state ≡ live b u →
      x.home ≡ (transaction p t).home → x.s ≡ (transaction p t).s → OwnFine x.state → Orderly (with_transaction p t x)
  orderly_changed t b u x l m h hx sx own =
      record {
        few = q.few;
        light = λ k. let a = busy_less k p.transactions (t - 1) x (omega arith) hx (λ _. live_busy (transaction p t).state b u h) in omega (arith, q.light k);
        least = q.least;
        most = q.most;
        closed = q.closed;
        sets = λ n a c. let s = q.sets n a c in record { home = s.home; fits = s.fits; below = s.below; valid = s.valid; waits = λ e. let d = s.waits e in pending_kept t x l (numbered p.sets n) n (not_live t b u h (numbered p.sets n) n d) d };
        transactions = λ o a c. at_set (TransactionFine K G p.applied) no_transaction p.transactions t o x l m a (λ _. new) (λ _. q.transactions o a (omega (arith, length-set p.transactions (t - 1) x)));
      }
    where
      f : TransactionFine K G p.applied (transaction p t)
      f = q.transactions t l m

      new : TransactionFine K G p.applied x
      new = record { home = omega (arith, f.home); saw = omega (arith, f.saw); front = λ _ o a c. rw hx (f.front (live_busy (transaction p t).state b u h) o a (omega arith)); own = own }

  pub orderly_ended : (t : ℕ) (b : Board) (u : Pairs) (e : TransactionState) → 1 ≤ t → t ≤ length p.transactions →
      (transaction p t).state ≡ live b u → is_busy e ≡ false → Orderly (with_transaction p t (in_state e (transaction p t)))
  orderly_ended t b u e l m h idle = orderly_changed t b u (in_state e (transaction p t)) l m h refl refl (idle_fine e idle)

  pub own_fine : (t : ℕ) (b : Board) (u : Pairs) → 1 ≤ t → t ≤ length p.transactions → (transaction p t).state ≡ live b u → Fine u
  own_fine t b u l m h = subst OwnFine h (q.transactions t l m).own

  pub orderly_wrote : (t j v : ℕ) (b : Board) (u : Pairs) → 1 ≤ t → t ≤ length p.transactions → (transaction p t).state ≡ live b u → j < 128 →
      room j u ≡ true → Orderly (with_transaction p t (in_state (live b (put j v u)) (transaction p t)))
  orderly_wrote t j v b u l m h small space = orderly_changed t b u (in_state (live b (put j v u)) (transaction p t)) l m h refl refl (put_fine j v u small space (own_fine t b u l m h))

  pub orderly_begun : (k : ℕ) → k < K → whole (p.applied k) G ≡ true → busy k p.transactions < 15 → Orderly (with_begun k p)
  orderly_begun k b full lt =
      record {
        few = q.few;
        light = λ o. let a = tally_push (busy_at o) p.transactions (new_transaction k p) in more o (eqb k o) refl a;
        least = q.least;
        most = q.most;
        closed = q.closed;
        sets = λ n a c. let s = q.sets n a c in record { home = s.home; fits = s.fits; below = s.below; valid = s.valid; waits = λ e. still (numbered p.sets n) n (s.waits e) };
        transactions = λ o a c. at_push (TransactionFine K G p.applied) no_transaction p.transactions o (new_transaction k p) a c (λ _. new) (λ d. q.transactions o a d);
      }
    where
      more : (o : ℕ) (e : Bool) → eqb k o ≡ e → busy o (p.transactions ++ new_transaction k p ∷ []) ≡ busy o p.transactions + bit (e && true) →
          busy o (p.transactions ++ new_transaction k p ∷ []) ≤ 15
      more o true e a = let same : k ≡ o = eqb-true k o e in let z : busy o p.transactions < 15 = rw (← same) lt in omega arith
      more o false e a = omega (arith, q.light o)

      still : (y : Numbered) (n : ℕ) → Pending p.transactions y n → Pending (p.transactions ++ new_transaction k p ∷ []) y n
      still y n d = record { least = d.least; most = omega (arith, d.most, length_push p.transactions (new_transaction k p)); is = get_or_append_left p.transactions (new_transaction k p ∷ []) no_transaction (y.who - 1) (omega (arith, d.least, d.most)) ∙ d.is }

      new : TransactionFine K G p.applied (new_transaction k p)
      new =
          record {
            home = b;
            saw = count_most (p.applied k) G;
            front = λ _ m a c. exactly_is (p.applied k) (count (p.applied k) G) G full m a (omega (arith, count_most (p.applied k) G)) ∙ le-leb m (count (p.applied k) G) c;
            own = record { rising = refl; few = omega arith };
          }

  pub orderly_numbered : (t : ℕ) (b : Board) (u : Pairs) → 1 ≤ t → t ≤ length p.transactions → (transaction p t).state ≡ live b u →
      is_empty u ≡ false → G < 256 → ((m : ℕ) → (transaction p t).s < m → m ≤ G → clash (pairs p.sets m) u ≡ false) → Orderly (register t u p)
  orderly_numbered t b u l m h full lt free =
      record {
        few = omega (arith, longer);
        light = λ k. let a = busy_less k p.transactions (t - 1) x (omega arith) refl (λ _. live_busy (transaction p t).state b u h) in omega (arith, q.light k);
        least = q.least;
        most = λ k n e. omega (arith, q.most k n e, longer);
        closed = λ k n o a c e s. q.closed k n o a c e (sym (both n o a (omega (arith, q.most k o e)) (omega arith) (q.most k o e)) ∙ s);
        sets = λ n a c. at_push (λ v. SetFine K (p.sets ++ y ∷ []) p.applied (set p.transactions (t - 1) x) v n) no_set p.sets n y a c
            (λ e. record {
              home = f.home;
              fits = fine_set u (own_fine t b u l m h) full;
              below = omega (arith, f.saw);
              valid = λ o i j. old_left o u (omega arith) (omega arith) ∙ free o i (omega arith);
              waits = λ _. record { least = l; most = omega (arith, length-set p.transactions (t - 1) x); is = get_or-set_same p.transactions (t - 1) x no_transaction (omega arith) ∙ rw e };
            })
            (λ d. let s = q.sets n a d in record {
              home = s.home;
              fits = s.fits;
              below = s.below;
              valid = λ o i j. old_left o (pairs p.sets n) (omega arith) (omega arith) ∙ s.valid o i j;
              waits = λ e. let g = s.waits e in pending_kept t x l (numbered p.sets n) n (not_live t b u h (numbered p.sets n) n g) g;
            });
        transactions = λ o a c. at_set (TransactionFine K (length (p.sets ++ y ∷ [])) p.applied) no_transaction p.transactions t o x l m a
            (λ _. record { home = f.home; saw = omega (arith, f.saw, longer); front = λ _. f.front (live_busy (transaction p t).state b u h); own = tt })
            (λ _. let g = q.transactions o a (omega (arith, length-set p.transactions (t - 1) x)) in record { home = g.home; saw = omega (arith, g.saw, longer); front = g.front; own = g.own });
      }
    where
      x : Transaction
      x = in_state (pending (suc G)) (transaction p t)

      y : Numbered
      y = record { who = t; home = (transaction p t).home; s = (transaction p t).s; pairs = u }

      f : TransactionFine K G p.applied (transaction p t)
      f = q.transactions t l m

      longer : length (p.sets ++ y ∷ []) ≡ suc G
      longer = omega (arith, length_push p.sets y)

      old : (n : ℕ) → 1 ≤ n → n ≤ G → pairs (p.sets ++ y ∷ []) n ≡ pairs p.sets n
      old n a c = ap (λ (v : Numbered). v.pairs) (get_or_append_left p.sets (y ∷ []) no_set (n - 1) (omega arith))

      old_left : (n : ℕ) (v : Pairs) → 1 ≤ n → n ≤ G → clash (pairs (p.sets ++ y ∷ []) n) v ≡ clash (pairs p.sets n) v
      old_left n v a c = ap (λ (z : Pairs). clash z v) (old n a c)

      both : (n o : ℕ) → 1 ≤ n → n ≤ G → 1 ≤ o → o ≤ G → clash (pairs (p.sets ++ y ∷ []) n) (pairs (p.sets ++ y ∷ []) o) ≡ clash (pairs p.sets n) (pairs p.sets o)
      both n o a c d e = old_left n (pairs (p.sets ++ y ∷ []) o) a c ∙ ap (clash (pairs p.sets n)) (old o d e)
