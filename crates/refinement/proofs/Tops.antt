-- The values that a plain board holds stay within the tops of their objects: a write is checked, and nothing else brings a value.
use Rattle.std.proofs.Common.{◌≡◌, ℕ, zero, suc, ◌-◌, Bool, true, false, cond, ◌&&◌, eqb, leb, ltb, List, [], ◌∷◌, ◌++◌, length, get_or, set, refl, subst}
use Rattle.std.proofs.lemmas.Bool.{and_from, and_parts}
use Rattle.calls.specs.declared.call.Call.{Call}
use Rattle.calls.specs.declared.call.Call.TheVariants.{Begin, Read, Write, Commit, GiveUp, Apply, Drain, Value, State, WriteSet, Applied}
use Rattle.tickets.specs.Boards.{Board, top}
use Rattle.tickets.specs.WriteSets.{Pairs}
use Rattle.record_format.specs.Items.{within_tops}
use Rattle.law.specs.Applications.{drained, holds, lacks, on_number, played_at, unless_held}
use Rattle.law.specs.History.{accepted}
use Rattle.law.specs.History.Answer.{done, read_only}
use Rattle.law.specs.Numbers.{lowest}
use Rattle.law.specs.Opening.{opening, start_of}
use Rattle.law.specs.Opening.PlainBoard.{opened, unopened}
use Rattle.law.specs.Plain.{Outcome, Plain, Transaction, in_state, just_opened, no_set, no_transaction, numbered, transaction, with_transaction}
use Rattle.law.specs.Plain.TransactionState.{committed, live}
use Rattle.law.specs.Steps.{step}
use Rattle.law.specs.Transactions.{clashes, register, verdict, with_begun}
use Rattle.law.specs.Writes.{is_empty, put}
use Rattle.law.proofs.Cases.{by_check, by_transaction}
use Rattle.refinement.specs.Tops.{OwnWithin, Within, BoardWithin, EveryOpeningWithin, EveryCallWithin}

-- ---- an element changed, or one more, where every element is alike

any_set : {X : Type 0} (P : X → Type 0) (d : X) (xs : List X) (i j : ℕ) (x : X) → P x → ((k : ℕ) → P (get_or xs k d)) → P (get_or (set xs i x) j d)
any_set P d [] i j x h f = f j
any_set P d (y ∷ xs) zero zero x h f = h
any_set P d (y ∷ xs) zero (suc j) x h f = f (suc j)
any_set P d (y ∷ xs) (suc i) zero x h f = f zero
any_set P d (y ∷ xs) (suc i) (suc j) x h f = any_set P d xs i j x h (λ k. f (suc k))

any_push : {X : Type 0} (P : X → Type 0) (d : X) (xs : List X) (j : ℕ) (x : X) → P x → ((k : ℕ) → P (get_or xs k d)) → P (get_or (xs ++ x ∷ []) j d)
any_push P d [] zero x h f = h
any_push P d [] (suc j) x h f = f j
any_push P d (y ∷ xs) zero x h f = f zero
any_push P d (y ∷ xs) (suc j) x h f = any_push P d xs j x h (λ k. f (suc k))

-- ---- a value below its top, put among others that are

put_within : (j v : ℕ) (u : Pairs) → leb v (top j) ≡ true → within_tops u ≡ true → within_tops (put j v u) ≡ true
put_within j v [] l h = and_from (leb v (top j)) true l refl
put_within j v ((i, x) ∷ u) l h = go (eqb j i) (ltb j i) (and_parts (leb x (top i)) (within_tops u) h) (put_within j v u l)
  where
    go : (a b : Bool) → (leb x (top i) ≡ true) × (within_tops u ≡ true) → (within_tops u ≡ true → within_tops (put j v u) ≡ true) →
        within_tops (cond a ((j, v) ∷ u) (cond b ((j, v) ∷ (i, x) ∷ u) ((i, x) ∷ put j v u))) ≡ true
    go true b (c, d) ih = and_from (leb v (top j)) (within_tops u) l d
    go false true (c, d) ih = and_from (leb v (top j)) (leb x (top i) && within_tops u) l h
    go false false (c, d) ih = and_from (leb x (top i)) (within_tops (put j v u)) c (ih d)

-- ---- applications bring no value

within_played : (k n : ℕ) (p : Plain) → Within p → Within (played_at k n p)
within_played k n p q = record { own = λ i. go (eqb k (numbered p.sets n).home) i; sets = q.sets }
  where
    home : Transaction
    home = in_state committed (transaction p (numbered p.sets n).who)

    go : (b : Bool) (i : ℕ) → OwnWithin (get_or (cond b (set p.transactions ((numbered p.sets n).who - 1) home) p.transactions) i no_transaction).state
    go true i = any_set (λ x. OwnWithin x.state) no_transaction p.transactions ((numbered p.sets n).who - 1) i home tt q.own
    go false i = q.own i

within_drained : (k m : ℕ) (p : Plain) → Within p → Within (drained k m p)
within_drained k zero p q = q
within_drained k (suc m) p q = go (λ r z. within_drained k m r z) (lowest (lacks (p.applied k)) (length p.sets))
  where
    go : ((r : Plain) → Within r → Within (drained k m r)) → (n : ℕ) → Within (on_number n p (λ i. drained k m (played_at k i p)))
    go ih zero = q
    go ih (suc n) = ih (played_at k (suc n) p) (within_played k (suc n) p q)

-- ---- every call

module _ (p : Plain) (q : Within p) where
  within_changed : (t : ℕ) (x : Transaction) → OwnWithin x.state → Within (with_transaction p t x)
  within_changed t x h = record { own = λ i. any_set (λ y. OwnWithin y.state) no_transaction p.transactions (t - 1) i x h q.own; sets = q.sets }

  own_within : (t : ℕ) (b : Board) (u : Pairs) → (transaction p t).state ≡ live b u → within_tops u ≡ true
  own_within t b u h = subst OwnWithin h (q.own (t - 1))

  within_begun : (k : ℕ) → Within (with_begun k p)
  within_begun k = record { own = λ i. any_push (λ y. OwnWithin y.state) no_transaction p.transactions i _ refl q.own; sets = q.sets }

  within_numbered : (t : ℕ) (u : Pairs) → within_tops u ≡ true → Within (register t u p)
  within_numbered t u h =
      record {
        own = λ i. any_set (λ y. OwnWithin y.state) no_transaction p.transactions (t - 1) i _ tt q.own;
        sets = λ i. any_push (λ y. within_tops y.pairs ≡ true) no_set p.sets i _ h q.sets;
      }

  abbrev Stays : Outcome → Type 0
  Stays o = Within o.1

  within_step : (c : Call) → Within (step c p).1
  unfolding step
  within_step (Begin k) = by_check Stays _ 1 p _ (λ _. q) (λ _. by_check Stays _ 26 p _ (λ _. q) (λ _. by_check Stays _ 27 p _ (λ _. q) (λ _. by_check Stays _ 28 p _ (λ _. q) (λ _. within_begun k))))
  within_step (Read t j) = by_transaction Stays t p _ (λ _. q) (λ b u l m h. by_check Stays _ 3 p _ (λ _. q) (λ _. q))
  within_step (Write t j v) =
      by_transaction Stays t p _ (λ _. q)
      (λ b u l m h. by_check Stays _ 3 p _ (λ _. q) (λ _. by_check Stays _ 5 p _ (λ _. q) (λ low. by_check Stays _ 30 p _ (λ _. q) (λ _. within_changed t _ (put_within j v u low (own_within t b u h))))))
  within_step (Commit t) = by_transaction Stays t p _ (λ _. q) (λ b u l m h. own u (own_within t b u h) (is_empty u))
    where
      judged : (u : Pairs) → within_tops u ≡ true → (r : ℕ) → Within (verdict r t u p).1
      judged u h zero = by_check Stays _ 31 p _ (λ _. q) (λ _. within_numbered t u h)
      judged u h (suc r) = within_changed t _ tt

      own : (u : Pairs) → within_tops u ≡ true → (e : Bool) →
          Within (cond e (read_only, with_transaction p t (in_state committed (transaction p t))) (verdict (lowest (clashes p.sets (transaction p t).s u) (length p.sets)) t u p)).1
      own u h true = within_changed t _ tt
      own u h false = judged u h (lowest (clashes p.sets (transaction p t).s u) (length p.sets))
  within_step (GiveUp t) = by_transaction Stays t p _ (λ _. q) (λ b u l m h. within_changed t _ tt)
  within_step (Apply k n) = by_check Stays _ 1 p _ (λ _. q) (λ _. by_check Stays _ 4 p _ (λ _. q) (λ _. by_check Stays _ 32 p _ (λ _. q) (λ _. go (lowest (holds (p.applied k) p.sets n) (n - 1)))))
    where
      go : (r : ℕ) → Within (unless_held r p (done, played_at k n p)).1
      go zero = within_played k n p q
      go (suc r) = q
  within_step (Drain k m) = by_check Stays _ 1 p _ (λ _. q) (λ _. within_drained k m p q)
  within_step (Value k j) = by_check Stays _ 1 p _ (λ _. q) (λ _. by_check Stays _ 3 p _ (λ _. q) (λ _. q))
  within_step (State t) = by_check Stays _ 2 p _ (λ _. q) (λ _. q)
  within_step (WriteSet n) = by_check Stays _ 4 p _ (λ _. q) (λ _. q)
  within_step (Applied k) = by_check Stays _ 1 p _ (λ _. q) (λ _. q)

pub every_call_within : EveryCallWithin
every_call_within c unopened q = tt
every_call_within c (opened p) q = within_step p q c

pub every_opening_within : EveryOpeningWithin
every_opening_within bank unopened q = go (accepted (opening bank))
  where
    go : (b : Bool) → BoardWithin (cond b (opened (just_opened (start_of bank) (length bank))) unopened)
    go true = record { own = λ i. tt; sets = λ i. refl }
    go false = tt
every_opening_within bank (opened p) q = q
