-- What it says that an item may stand at its number, and that a list is a run.
use Rattle.std.proofs.Common.{◌≡◌, ℕ, ◌+◌, ◌^◌, ◌<◌, ◌≤◌, true, leb, List, ◌∷◌, length, Some, None, Option, sym, ◌∙◌, inl, inr, arith}
use Rattle.std.proofs.lemmas.Bool.{and_parts, leb-true, ltb-true, le-leb, cond-true, cond-false, cases_Bool}
use Rattle.tickets.specs.Boards.{top}
use Rattle.tickets.specs.WriteSets.{Pairs, is_write_set}
use Rattle.tickets.proofs.Playing.{tops_fit}
use Rattle.record_format.specs.Items.{Item, within_tops, fits, first_unfit, Run}

-- the first value is within its top, so that it fits in four bytes, and so are the others
pub record FirstValue (v : ℕ) (ps : Pairs) : Type 0 where
  pub narrow : v < 2 ^ 32
  pub others : within_tops ps ≡ true

pub first_value : (j v : ℕ) (ps : Pairs) → within_tops ((j, v) ∷ ps) ≡ true → FirstValue v ps
first_value j v ps h =
    let a = and_parts (leb v (top j)) _ h in
    let l = leb-true v (top j) a.0 in
    record { narrow = omega (arith, tops_fit j); others = a.1 }

pub record Fit (n : ℕ) (it : Item) : Type 0 where
  pub home : it.home ≤ 7
  pub older : it.s < n
  pub some : 0 < length it.pairs
  pub few : length it.pairs ≤ 8
  pub within : within_tops it.pairs ≡ true

pub fit : (n : ℕ) (it : Item) → fits n it ≡ true → Fit n it
fit n it h =
    let a = and_parts _ _ h in
    let b = and_parts _ _ a.1 in
    let c = and_parts (is_write_set it.pairs) _ b.1 in
    let d = and_parts _ _ c.0 in
    let e = and_parts _ _ d.1 in
    record { home = leb-true _ _ a.0; older = ltb-true _ _ b.0; some = ltb-true _ _ d.0; few = leb-true _ _ e.0; within = c.1 }

none_is_not_some : {n : ℕ} → ◌≡◌ {A = Option ℕ} (Some n) None → ⊥
none_is_not_some e = let z : ◌≡◌ {A = ℕ} 0 1 = cc in omega arith

-- the first item may stand, and so may the others
pub record FirstFits (n : ℕ) (it : Item) (its : List Item) : Type 0 where
  pub first : fits n it ≡ true
  pub others : first_unfit (n + 1) its ≡ None

pub first_fits : (n : ℕ) (it : Item) (its : List Item) → first_unfit n (it ∷ its) ≡ None → FirstFits n it its
first_fits n it its h =
    elim (cases_Bool (fits n it)) [
      | inl t ↦ record { first = t; others = sym (cond-true _ _ _ t) ∙ h }
      | inr f ↦ absurd (none_is_not_some (sym (cond-false _ _ _ f) ∙ h))
    ]

pub all_fit : (n : ℕ) (it : Item) (its : List Item) → fits n it ≡ true → first_unfit (n + 1) its ≡ None → first_unfit n (it ∷ its) ≡ None
all_fit n it its t h = cond-true _ _ _ t ∙ h

-- a run has at most 256 items, and each may stand at its number
pub record RunParts (its : List Item) : Type 0 where
  pub few : length its ≤ 256
  pub all : first_unfit 1 its ≡ None

pub run_parts : (its : List Item) → Run its → RunParts its
run_parts its h =
    elim (cases_Bool (leb (length its) 256)) [
      | inl t ↦ record { few = leb-true _ _ t; all = sym (cond-true _ _ _ t) ∙ h }
      | inr f ↦ absurd (none_is_not_some (sym (cond-false _ _ _ f) ∙ h))
    ]

pub run_from : (its : List Item) → RunParts its → Run its
run_from its p = cond-true _ _ _ (le-leb _ _ p.few) ∙ p.all
