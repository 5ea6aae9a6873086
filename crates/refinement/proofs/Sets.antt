-- The numbered write sets of the machine, and where they are applied, as the law has them.
use Rattle.std.proofs.Common.{◌≡◌, ℕ, zero, suc, ◌-◌, ◌<◌, ◌≤◌, Bool, true, false, not, ◌&&◌, ◌||◌, eqb, ltb, ◌⊎◌, List, [], ◌∷◌, ◌++◌, map, length, get_or, set, replicate, sym, refl, ap, ◌∙◌, inl, inr, ⊎_elim, arith}
use mathlib.Core.Path.{fun_ext}
use lib.ListN.{length-map, get_or-map}
use Rattle.std.proofs.lemmas.List.{map-set, set-get_or, get_or-set_same, get_or-set_other, get_or_append_left, get_or_push, get_or_past, length_push, get_or-replicate, length-set}
use Rattle.std.proofs.lemmas.Bool.{cases_eq, cases_lt, eq-eqb, ne_eqb}
use Rattle.tickets.specs.WriteSets.{Pairs, shares}
use Rattle.ledger.specs.Words as words
use Rattle.ledger.specs.Sets.{SetModel, no_set, nth_set, is_applied, applied_at, marked_set, progress_at, lowest_clash, lowest_holding, lowest_unapplied}
use Rattle.law.specs.Numbers.{count, whole, lowest}
use Rattle.law.specs.Clashes.{clash}
use Rattle.law.specs.Plain.{Numbered, numbered, pairs}
use Rattle.law.specs.Transactions.{clashes}
use Rattle.law.specs.Applications.{marked, lacks, holds}
use Rattle.law.proofs.Clashes.{clash_is_sharing}
use Rattle.refinement.specs.Worlds.{numbered_of, applied_of}
use Rattle.refinement.specs.Sound.{EightMarks}
use Rattle.refinement.proofs.Numbers.{same_count, same_whole, same_lowest}

module _ (us : List SetModel) where
  abbrev pub law_sets : List Numbered
  law_sets = map numbered_of us

  pub as_many_sets : length law_sets ≡ length us
  as_many_sets = length-map us numbered_of

  pub set_is : (n : ℕ) → numbered law_sets n ≡ numbered_of (nth_set us n)
  set_is n = get_or-map numbered_of us (n - 1) no_set

  applied_next : (k i : ℕ) → applied_at us k (suc i) ≡ applied_of us k (suc i)
  applied_next k i = let e : suc i - 1 ≡ i = omega arith in ap (λ o. is_applied k (get_or us o no_set)) e

  pub applied_is : (k n : ℕ) → 1 ≤ n → is_applied k (nth_set us n) ≡ applied_of us k n
  applied_is k zero l = absurd (omega arith)
  applied_is k (suc i) l = applied_next k i

  pub progress_is : (k : ℕ) → progress_at us k ≡ record { applied = count (applied_of us k) (length law_sets); whole = whole (applied_of us k) (length law_sets) }
  unfolding progress_at
  progress_is k =
      let a = same_count (applied_at us k) (applied_of us k) (length us) (applied_next k) ∙ ap (count (applied_of us k)) (sym as_many_sets) in
      let b = same_whole (applied_at us k) (applied_of us k) (length us) (applied_next k) ∙ ap (whole (applied_of us k)) (sym as_many_sets) in
      λ i. record { applied = a i; whole = b i }

  -- the machine's clash is the law's
  same_clash : (n : ℕ) (u : Pairs) → shares (nth_set us n).pairs u ≡ clash (pairs law_sets n) u
  same_clash n u = sym (clash_is_sharing (nth_set us n).pairs u) ∙ ap (λ (y : Numbered). clash y.pairs u) (sym (set_is n))

  pub lowest_clash_is : (s : ℕ) (u : Pairs) → lowest_clash us s u ≡ words.some_number (lowest (clashes law_sets s u) (length law_sets))
  unfolding lowest_clash
  lowest_clash_is s u =
      ap words.some_number
      (same_lowest _ (clashes law_sets s u) (length us) (λ i. ap (λ b. ltb s (suc i) && b) (same_clash (suc i) u)) ∙ ap (lowest (clashes law_sets s u)) (sym as_many_sets))

  pub lowest_holding_is : (k n last : ℕ) → lowest_holding us k last (nth_set us n).pairs ≡ words.some_number (lowest (holds (applied_of us k) law_sets n) last)
  unfolding lowest_holding
  lowest_holding_is k n last =
      ap words.some_number
      (same_lowest _ (holds (applied_of us k) law_sets n) last (λ i.
      let m = same_clash (suc i) (nth_set us n).pairs ∙ ap (λ (y : Numbered). clash (pairs law_sets (suc i)) y.pairs) (sym (set_is n)) in
      λ o. not (applied_next k i o) && m o))

  pub lowest_unapplied_is : (k : ℕ) → lowest_unapplied us k ≡ words.some_number (lowest (lacks (applied_of us k)) (length law_sets))
  unfolding lowest_unapplied
  lowest_unapplied_is k =
      ap words.some_number
      (same_lowest _ (lacks (applied_of us k)) (length us) (λ i. ap not (applied_next k i)) ∙ ap (lowest (lacks (applied_of us k))) (sym as_many_sets))

-- ---- one more mark

module _ (us : List SetModel) (k n : ℕ) (l : 1 ≤ n) (m : n ≤ length us) where
  abbrev x : SetModel
  x = nth_set us n

  pub mark_keeps_sets : map numbered_of (set us (n - 1) (marked_set k x)) ≡ map numbered_of us
  mark_keeps_sets = map-set numbered_of us (n - 1) (marked_set k x) ∙ (ap (set (map numbered_of us) (n - 1)) (sym (set_is us n)) ∙ set-get_or (map numbered_of us) (n - 1) (numbered_of no_set))

  module _ (marks : EightMarks us) (eight : k < 8) where
    width : length x.applied ≡ 8
    width = marks (n - 1) (omega arith)

    -- the mark itself
    mark_at : (i : ℕ) → is_applied i (marked_set k x) ≡ ((eqb i k && true) || is_applied i x)
    mark_at i = go (cases_eq i k)
      where
        go : (i ≡ k) ⊎ (i ≡ k → ⊥) → get_or (set x.applied k true) i false ≡ ((eqb i k && true) || get_or x.applied i false)
        go (inl e) = rw (e, get_or-set_same x.applied k true false (omega (arith, width)), eq-eqb k k refl)
        go (inr e) = rw (get_or-set_other x.applied k i true false e, ne_eqb i k e)

    pub mark_is : applied_of (set us (n - 1) (marked_set k x)) ≡ marked k n (applied_of us)
    mark_is = fun_ext (λ i. fun_ext (λ o. at i o))
      where
        not_there : (a b : Bool) → ((a && false) || b) ≡ b
        not_there true b = refl
        not_there false b = refl

        go : (i o : ℕ) → (o ≡ n - 1) ⊎ (o ≡ n - 1 → ⊥) → is_applied i (get_or (set us (n - 1) (marked_set k x)) o no_set) ≡ ((eqb i k && eqb (suc o) n) || is_applied i (get_or us o no_set))
        go i o (inl e) = rw (e, get_or-set_same us (n - 1) (marked_set k x) no_set (omega arith), eq-eqb (suc (n - 1)) n (omega arith)) (mark_at i)
        go i o (inr e) = rw (get_or-set_other us (n - 1) o (marked_set k x) no_set e, ne_eqb (suc o) n (omega arith)) (sym (not_there (eqb i k) (is_applied i (get_or us o no_set))))

        at : (i o : ℕ) → applied_of (set us (n - 1) (marked_set k x)) i o ≡ marked k n (applied_of us) i o
        at i zero = rw (ne_eqb 0 n (omega arith)) (sym (not_there (eqb i k) false))
        at i (suc o) = go i o (cases_eq o (n - 1))

    pub mark_keeps_eight : EightMarks (set us (n - 1) (marked_set k x))
    mark_keeps_eight i h = go (cases_eq i (n - 1))
      where
        go : (i ≡ n - 1) ⊎ (i ≡ n - 1 → ⊥) → length (get_or (set us (n - 1) (marked_set k x)) i no_set).applied ≡ 8
        go (inl e) = rw (e, get_or-set_same us (n - 1) (marked_set k x) no_set (omega arith)) (length-set x.applied k true ∙ width)
        go (inr e) = rw (get_or-set_other us (n - 1) i (marked_set k x) no_set e) (marks i (omega (arith, length-set us (n - 1) (marked_set k x))))

-- ---- one more write set, applied nowhere

module _ (us : List SetModel) (y : SetModel) (new : y.applied ≡ replicate 8 false) where
  pub more_keeps_applied : applied_of (us ++ y ∷ []) ≡ applied_of us
  more_keeps_applied = fun_ext (λ i. fun_ext (λ o. at i o))
    where
      nowhere : (i : ℕ) → get_or (replicate 8 false) i false ≡ false
      nowhere i = ⊎_elim (λ (h : i < 8). get_or-replicate 8 i false false h) (λ (h : 8 ≤ i). get_or_past (replicate 8 false) i false h) (cases_lt i 8)

      go : (i o : ℕ) → (o < length us) ⊎ (length us ≤ o) → is_applied i (get_or (us ++ y ∷ []) o no_set) ≡ is_applied i (get_or us o no_set)
      go i o (inl h) = rw (get_or_append_left us (y ∷ []) no_set o h)
      go i o (inr h) = past (cases_eq (length us) o)
        where
          past : (length us ≡ o) ⊎ (length us ≡ o → ⊥) → is_applied i (get_or (us ++ y ∷ []) o no_set) ≡ is_applied i (get_or us o no_set)
          past (inl e) = rw (get_or_push us y no_set o e, get_or_past us o no_set h, new) (nowhere i)
          past (inr e) = rw (get_or_past us o no_set h, get_or_past (us ++ y ∷ []) o no_set (omega (arith, length_push us y)))

      at : (i o : ℕ) → applied_of (us ++ y ∷ []) i o ≡ applied_of us i o
      at i zero = refl
      at i (suc o) = go i o (cases_lt o (length us))

  pub more_keeps_eight : EightMarks us → EightMarks (us ++ y ∷ [])
  more_keeps_eight marks i h = go (cases_lt i (length us))
    where
      go : (i < length us) ⊎ (length us ≤ i) → length (get_or (us ++ y ∷ []) i no_set).applied ≡ 8
      go (inl l) = rw (get_or_append_left us (y ∷ []) no_set i l) (marks i l)
      go (inr l) = rw (get_or_push us y no_set i (omega (arith, length_push us y)), new)
