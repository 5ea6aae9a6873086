-- One element changed, or one more; one number more that is applied.
use Rattle.std.proofs.Common.{◌≡◌, ℕ, suc, ◌-◌, ◌<◌, ◌≤◌, Bool, true, false, ◌&&◌, eqb, ◌⊎◌, List, [], ◌∷◌, ◌++◌, length, get_or, set, refl, inl, inr, arith}
use Rattle.std.proofs.lemmas.List.{get_or_append_left, get_or_push, get_or-set_other, get_or-set_same, length_push}
use Rattle.std.proofs.lemmas.Bool.{and_from, cases_eq, eq-eqb, or_left, or_right}
use Rattle.law.specs.Applications.{marked}
use Rattle.law.specs.Plain.{Transaction, busy, busy_at, is_busy, no_transaction}
use Rattle.law.proofs.Numbers.{bit, tally_set}

pub at_set : {X : Type 0} (P : X → Type 0) (d : X) (T : List X) (t o : ℕ) (x : X) → 1 ≤ t → t ≤ length T → 1 ≤ o → (o ≡ t → P x) →
    ((o ≡ t → ⊥) → P (get_or T (o - 1) d)) → P (get_or (set T (t - 1) x) (o - 1) d)
at_set P d T t o x l m n f g = go (cases_eq o t)
  where
    go : (o ≡ t) ⊎ (o ≡ t → ⊥) → P (get_or (set T (t - 1) x) (o - 1) d)
    go (inl e) = rw (e, get_or-set_same T (t - 1) x d (omega arith)) (f e)
    go (inr e) = rw (get_or-set_other T (t - 1) (o - 1) x d (omega arith)) (g e)

pub at_place : {X : Type 0} (P : X → Type 0) (d : X) (T : List X) (k o : ℕ) (x : X) → k < length T → (o ≡ k → P x) → ((o ≡ k → ⊥) → P (get_or T o d)) → P (get_or (set T k x) o d)
at_place P d T k o x l f g = go (cases_eq o k)
  where
    go : (o ≡ k) ⊎ (o ≡ k → ⊥) → P (get_or (set T k x) o d)
    go (inl e) = rw (e, get_or-set_same T k x d l) (f e)
    go (inr e) = rw (get_or-set_other T k o x d e) (g e)

pub at_push : {X : Type 0} (P : X → Type 0) (d : X) (T : List X) (o : ℕ) (x : X) → 1 ≤ o → o ≤ length (T ++ x ∷ []) → (o ≡ suc (length T) → P x) →
    (o ≤ length T → P (get_or T (o - 1) d)) → P (get_or (T ++ x ∷ []) (o - 1) d)
at_push P d T o x l m f g = go (cases_eq o (suc (length T)))
  where
    go : (o ≡ suc (length T)) ⊎ (o ≡ suc (length T) → ⊥) → P (get_or (T ++ x ∷ []) (o - 1) d)
    go (inl e) = rw (get_or_push T x d (o - 1) (omega arith)) (f e)
    go (inr e) = let n : o ≤ length T = omega (arith, length_push T x) in rw (get_or_append_left T (x ∷ []) d (o - 1) (omega arith)) (g n)

-- a transaction that stays at home and comes to no busier state
pub busy_less : (k : ℕ) (T : List Transaction) (i : ℕ) (x : Transaction) → i < length T → x.home ≡ (get_or T i no_transaction).home →
    (is_busy x.state ≡ true → is_busy (get_or T i no_transaction).state ≡ true) → busy k (set T i x) ≤ busy k T
busy_less k T i x l h b =
    let a = tally_set (busy_at k) no_transaction T i x l in
    let c : bit (busy_at k x) ≤ bit (busy_at k (get_or T i no_transaction)) = rw h (go (eqb (get_or T i no_transaction).home k) (is_busy x.state) (is_busy (get_or T i no_transaction).state) b) in
    omega arith
  where
    go : (z v u : Bool) → (v ≡ true → u ≡ true) → bit (z && v) ≤ bit (z && u)
    go false v u f = omega arith
    go true true u f = rw (f refl) (omega arith)
    go true false u f = omega arith

-- n is marked at k
pub marked_more : (k n : ℕ) (A : ℕ → ℕ → Bool) (i o : ℕ) → A i o ≡ true → marked k n A i o ≡ true
marked_more k n A i o e = or_right (eqb i k && eqb o n) (A i o) e

pub marked_new : (k n : ℕ) (A : ℕ → ℕ → Bool) → marked k n A k n ≡ true
marked_new k n A = or_left (eqb k k && eqb n n) (A k n) (and_from (eqb k k) (eqb n n) (eq-eqb k k refl) (eq-eqb n n refl))
