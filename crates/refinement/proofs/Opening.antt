-- Opening the machine, beside the law's middleware.
use Rattle.std.proofs.Common.{◌≡◌, ℕ, zero, suc, ◌+◌, ◌-◌, ◌<◌, ◌≤◌, Bool, true, false, cond, ◌||◌, ltb, leb, ◌⊎◌, List, [], ◌∷◌, map, length, Some, None, Ok, Err, Option, Result, sym, refl, ap, ◌∙◌, inl, inr, arith}
use Rattle.std.proofs.lemmas.Bool.{cases_lt, lt-ltb, le-leb, lt-leb}
use Rattle.tickets.specs.Boards.{Board}
use Rattle.stores.specs.Model.{StoreModel, Place}
use Rattle.banks.specs.Model.{told_count}
use Rattle.errands.specs.Copies as copies
use Rattle.errands.specs.Copies.{any_open, used, above_top}
use Rattle.machine.specs.declared.reason.Reason.{Reason}
use Rattle.machine.specs.declared.reason.Reason.TheVariants.{ReplicaUsed, ReplicaAboveTop, ReplicaUnlike, TooManyReplicas}
use Rattle.machine.specs.Reasons.{from_store, listed}
use Rattle.machine.specs.Machine.{bind}
use Rattle.machine.specs.Opening as machine
use Rattle.machine.specs.Opening.{copy_fits, copies_fit, starting_board, may_open}
use Rattle.law.specs.History as law
use Rattle.law.specs.History.{Answer, accepted}
use Rattle.law.specs.Numbers.{lowest, or_else}
use Rattle.law.specs.Store.{Store, open_count}
use Rattle.law.specs.Opening.{start_of, is_used, too_high, unlike, first_object, unless_found, open_from, opening}
use Rattle.refinement.specs.Stores.{law_place, law_store, law_bank}
use Rattle.refinement.specs.Answers.{refusal, answered, quiet}
use Rattle.refinement.proofs.Banks.{as_many_stores, store_is}

-- ---- the lowest object that passes, counted from 0 or from 1

abbrev below : ℕ → Option ℕ
below zero = None
below (suc j) = Some j

abbrev or_some : Option ℕ → Option ℕ → Option ℕ
or_some None b = b
or_some (Some j) b = Some j

abbrev if_passes : (ℕ → Bool) → ℕ → Option ℕ
if_passes f j = cond (f j) (Some j) None

-- one more object is asked last
asked_last : (f : ℕ → Bool) (j n : ℕ) → copies.first_object f j (suc n) ≡ or_some (copies.first_object f j n) (if_passes f (j + n))
unfolding copies.first_object
asked_last f j zero = let e : j ≡ j + 0 = omega arith in ap (if_passes f) e
asked_last f j (suc n) = go (f j) (asked_last f (j + 1) n ∙ ap (λ i. or_some before (if_passes f i)) (omega arith))
  where
    before : Option ℕ
    before = copies.first_object f (j + 1) n

    go : (c : Bool) → copies.first_object f (j + 1) (suc n) ≡ or_some before (if_passes f (j + suc n)) →
        cond c (Some j) (copies.first_object f (j + 1) (suc n)) ≡ or_some (cond c (Some j) before) (if_passes f (j + suc n))
    go true e = refl
    go false e = e

first_is : (f : ℕ → Bool) (n : ℕ) → copies.first_object f 0 n ≡ below (lowest (λ i. f (i - 1)) n)
unfolding copies.first_object
first_is f zero = refl
first_is f (suc n) = asked_last f 0 n ∙ (ap (λ o. or_some o (if_passes f (0 + n))) (first_is f n) ∙ (ap (λ i. or_some (below low) (if_passes f i)) same ∙ go low (f (suc n - 1))))
  where
    low : ℕ
    low = lowest (λ i. f (i - 1)) n

    same : 0 + n ≡ suc n - 1
    same = omega arith

    go : (r : ℕ) (c : Bool) → or_some (below r) (cond c (Some (suc n - 1)) None) ≡ below (or_else r (cond c (suc n) 0))
    go zero true = let e : suc n - 1 ≡ n = omega arith in ap Some e
    go zero false = refl
    go (suc r) c = refl

pub first_object_is : (f : ℕ → Bool) → copies.first_object f 0 128 ≡ below (first_object f)
unfolding first_object
first_object_is f = first_is f 128

-- ---- the checks of one replica

same_open : (l : List (Option Place)) → any_open l ≡ ltb 0 (open_count (map law_place l))
unfolding any_open
same_open [] = refl
same_open (None ∷ l) = same_open l
same_open (Some x ∷ l) = sym (lt-ltb 0 (suc (open_count (map law_place l))) (omega arith))

used_is : (m : StoreModel) → used m ≡ is_used (law_store m)
used_is m = swap (any_open m.places) (ltb 0 m.commits) ∙ ap (λ c. ltb 0 m.commits || c) (same_open m.places)
  where
    swap : (a b : Bool) → (a || b) ≡ (b || a)
    swap true true = refl
    swap true false = refl
    swap false true = refl
    swap false false = refl

copies_are : (start : Board) (k : ℕ) (ms : List StoreModel) → answered quiet (copies_fit start k ms) ≡ open_from start k (law_bank ms)
unfolding copies_fit copy_fits open_from
copies_are start k [] = refl
copies_are start k (m ∷ ms) =
    rw (used_is m, first_object_is (above_top m.board), first_object_is (copies.unlike start m.board))
    (go (is_used (law_store m)) (first_object (too_high m.board)) (first_object (unlike start m.board)) (copies_are start (suc k) ms))
  where
    others : Answer
    others = open_from start (suc k) (law_bank ms)

    fits : Bool → ℕ → ℕ → Result (Unit {0}) Reason
    fits c i j = cond c (Err (ReplicaUsed k)) (machine.unless_found (below i) (ReplicaAboveTop k) (machine.unless_found (below j) (ReplicaUnlike k) (Ok tt)))

    go : (c : Bool) (i j : ℕ) → answered quiet (copies_fit start (suc k) ms) ≡ others →
        answered quiet (bind (fits c i j) (λ _. copies_fit start (suc k) ms)) ≡ cond c (law.refused 11 (k ∷ [])) (unless_found i 12 k (unless_found j 13 k others))
    go true i j e = refl
    go false zero zero e = e
    go false zero (suc j) e = refl
    go false (suc i) j e = refl

-- ---- all checks

not_accepted : (e : Reason) → accepted (refusal e) ≡ false
not_accepted e = go (from_store e)
  where
    go : (c : Bool) → accepted (cond c (law.fault (listed e).0) (law.refused (listed e).0 (listed e).1)) ≡ false
    go true = refl
    go false = refl

pub start_is : (ms : List StoreModel) → start_of (law_bank ms) ≡ starting_board ms
start_is ms = ap (λ (σ : Store). σ.board) (store_is ms 0)

-- what opening the stores ms is answered
pub data MayOpen (ms : List StoreModel) : Type 0 where
  accepts : may_open ms ≡ Ok (starting_board ms) → opening (law_bank ms) ≡ law.done → MayOpen ms
  refuses : (e : Reason) → may_open ms ≡ Err e → opening (law_bank ms) ≡ refusal e → accepted (refusal e) ≡ false → MayOpen ms

pub may_open_is : (ms : List StoreModel) → MayOpen ms
may_open_is ms = go (cases_lt 8 (length ms))
  where
    bank : List Store
    bank = law_bank ms

    checked : (r : Result (Unit {0}) Reason) → copies_fit (starting_board ms) 0 ms ≡ r → open_from (start_of bank) 0 bank ≡ answered quiet r
    checked r e = ap (λ (s : Board). open_from s 0 bank) (start_is ms) ∙ (sym (copies_are (starting_board ms) 0 ms) ∙ ap (answered quiet) e)

    few : leb (told_count ms) 8 ≡ true → leb (length bank) 8 ≡ true → (r : Result (Unit {0}) Reason) → copies_fit (starting_board ms) 0 ms ≡ r → MayOpen ms
    few a b (Ok u) e = accepts (rw (a, e)) (rw b (checked (Ok u) e))
    few a b (Err x) e = refuses x (rw (a, e)) (rw b (checked (Err x) e)) (not_accepted x)

    go : (8 < length ms) ⊎ (length ms ≤ 8) → MayOpen ms
    go (inl h) = refuses TooManyReplicas (rw (lt-leb (told_count ms) 8 (omega arith))) (rw (lt-leb (length bank) 8 (omega (arith, as_many_stores ms)))) refl
    go (inr h) = few (le-leb (told_count ms) 8 (omega arith)) (le-leb (length bank) 8 (omega (arith, as_many_stores ms))) (copies_fit (starting_board ms) 0 ms) refl
