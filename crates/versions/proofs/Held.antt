-- The pairs that own writes hold: those below their count. Assumes nothing.
use Rattle.std.proofs.Common.{◌≡◌, ℕ, ◌+◌, ◌<◌, ◌≤◌, true, false, cond, eqb, ltb, length, get_or, take, set, is_some, Some, None, Ok, Err, Option, sym, ap, ◌∙◌, subst, ⊎_elim, arith}
use Rattle.std.specs.List.{position}
use Rattle.std.specs.Option.{MatchOption}
use lib.Seq.{take-set-lt}
use Rattle.std.proofs.lemmas.List.{length-take-le, get_or-take, take_more_set}
use Rattle.std.proofs.lemmas.List.Quantifiers.{position-Some}
use Rattle.std.proofs.lemmas.Bool.{eqb-true, lt-ltb, le-ltb, cases_lt}
use Rattle.stores.specs.declared.fault.StoreFault.TheVariants.{NinthObject}
use Rattle.stores.specs.Model.{with_write}
use Rattle.tickets.specs.declared.pair.Pair.{Pair}
use Rattle.versions.specs.declared.own_writes.OwnWrites.{OwnWrites}
use Rattle.versions.specs.Pairs.{own_in, no_pair}
use Rattle.versions.specs.Writes.{own_of, count_of, set_own, held}
use Rattle.versions.proofs.Pairs.{Wrote, none_past, own_nowhere, own_at, write_new, write_over}
use Rattle.versions.proofs.Counts.{count_is}

never : (o : Option ℕ) (v : ℕ) → o ≡ Some v → o ≡ None → ⊥
never o v e n = let z : ◌≡◌ {A = ℕ} 0 1 = cc in omega arith

not_inside : (i n : ℕ) → ◌≡◌ {A = Option ℕ} None (cond (ltb i n) (Some i) None) → n ≤ i
not_inside i n e = ⊎_elim (λ l. let b : ltb i n ≡ true = lt-ltb i n l in let z : ◌≡◌ {A = Option ℕ} None (Some i) = rw b at e in cc) (λ l. l) (cases_lt i n)

module _ (w : OwnWrites) where
  pub held_length : length (held w) ≡ w.count
  held_length = length-take-le w.count w.pairs (omega (arith, w.few, w.whole))

  pub held_at : (i : ℕ) → i < w.count → get_or (held w) i no_pair ≡ get_or w.pairs i no_pair
  held_at i h = get_or-take w.count w.pairs i no_pair h

  pub held_count : count_of (own_of w) ≡ w.count
  held_count = count_is (held w) w.once ∙ held_length

  pub held_few : count_of (own_of w) ≤ 8
  held_few = omega (arith, held_count, w.few)

  pub held_past : (j : ℕ) → 128 ≤ j → own_of w j ≡ None
  held_past = none_past (held w) w.once

  pub held_below : (j v : ℕ) → own_of w j ≡ Some v → j < 128
  held_below j v e = ⊎_elim (λ l. l) (λ l. absurd (never (own_of w j) v e (held_past j l))) (cases_lt j 128)

  -- the write at index i
  pub held_own : (i j : ℕ) → i < w.count → (get_or w.pairs i no_pair).object ≡ j → own_of w j ≡ Some (get_or w.pairs i no_pair).value
  held_own i j h e =
      ap (own_in (held w)) (sym (ap (λ (p : Pair). p.object) (held_at i h) ∙ e)) ∙ own_at (held w) i w.once (omega (arith, held_length)) ∙ ap (λ (p : Pair). Some p.value) (held_at i h)

  -- where the pair of an object stands
  pub held_position : (j : ℕ) (r : Option ℕ) → r ≡ position (λ p. eqb p.object j) (held w)
      → MatchOption r (own_of w j ≡ None) (λ i. (i < w.count) × ((get_or w.pairs i no_pair).object ≡ j))
  held_position j None e = own_nowhere (held w) j (not_inside _ _ e)
  held_position j (Some i) e =
      let p = position-Some (λ p. eqb p.object j) (held w) i no_pair (sym e) in
      let h : i < w.count = omega (arith, held_length, p.0) in
      (h, ap (λ (p : Pair). p.object) (sym (held_at i h)) ∙ eqb-true _ _ p.1)

  module _ (q : Pair) where
    -- a pair put over the one at index i
    pub held_over : (i : ℕ) → i < w.count → (get_or w.pairs i no_pair).object ≡ q.object → Wrote (held w) q (take w.count (set w.pairs i q))
    held_over i h e =
        subst (Wrote (held w) q) (sym (take-set-lt w.count w.pairs i q h))
        (write_over (held w) q i w.once (omega (arith, held_length)) (ap (λ (p : Pair). p.object) (held_at i h) ∙ e))

    -- a pair put behind the last
    pub held_new : w.count < 8 → q.object < 128 → own_of w q.object ≡ None → Wrote (held w) q (take (w.count + 1) (set w.pairs w.count q))
    held_new h l n =
        subst (Wrote (held w) q) (sym (take_more_set w.pairs w.count q (omega (arith, w.whole))))
        (write_new (held w) q w.once l n)

-- ---- what setting an own write answers

module _ (w : OwnWrites) (j v : ℕ) (l : j < 128) where
  pub set_over : is_some (own_of w j) ≡ true → set_own (own_of w) j v ≡ Ok (with_write (own_of w) j v)
  set_over e = let b : ltb j 128 ≡ true = lt-ltb j 128 l in rw (b, e)

  pub set_new : own_of w j ≡ None → w.count < 8 → set_own (own_of w) j v ≡ Ok (with_write (own_of w) j v)
  set_new e h =
      let b : ltb j 128 ≡ true = lt-ltb j 128 l in
      let c : ltb (count_of (own_of w)) 8 ≡ true = lt-ltb _ 8 (omega (arith, held_count w)) in
      rw (b, e, c)

  pub set_ninth : own_of w j ≡ None → w.count ≡ 8 → set_own (own_of w) j v ≡ Err NinthObject
  set_ninth e h =
      let b : ltb j 128 ≡ true = lt-ltb j 128 l in
      let c : ltb (count_of (own_of w)) 8 ≡ false = le-ltb _ 8 (omega (arith, held_count w)) in
      rw (b, e, c)
