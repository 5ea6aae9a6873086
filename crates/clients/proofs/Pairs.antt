-- The pairs of a write set, as own writes. Assumes nothing.
use Rattle.std.proofs.Common.{◌≡◌, ℕ, suc, ◌<◌, ◌≤◌, Bool, true, false, eqb, ltb, leb, ◌⊎◌, [], ◌∷◌, length, get_or, is_some, Some, None, Option, sym, refl, ap, ◌∙◌, ⊎_elim, arith}
use Rattle.std.proofs.lemmas.List.{ext_get_or}
use Rattle.std.proofs.lemmas.Bool.{ltb-true, leb-true, eq-eqb, ne_eqb, cases_eq, cases_lt, and_parts}
use Rattle.tickets.specs.Boards.{Board}
use Rattle.tickets.specs.WriteSets.{Pairs, rising, lookup, stands, play, over}
use Rattle.tickets.specs.Meaning.{pairs}
use Rattle.tickets.specs.declared.write_set.WriteSet.{WriteSet}
use Rattle.tickets.proofs.Playing.{length-play, value_play}
use Rattle.tickets.proofs.Sets.{length_pairs, some_pairs, pairs_rise}
use Rattle.stores.specs.Model.{no_writes, with_write, or_else, played}
use Rattle.stores.proofs.Steps.{length-played, get_or-played}

-- ---- what every write set is

pub record Fit (ps : Pairs) : Type 0 where
  pub some : 0 < length ps
  pub few : length ps ≤ 8
  pub rises : rising 0 ps ≡ true

pub set_fits : (w : WriteSet) → Fit (pairs w)
set_fits w = let n = length_pairs w in let s = some_pairs w in record { some = omega arith; few = omega arith; rises = pairs_rise w }

-- ---- objects that rise

pub first_within : (low j v : ℕ) (ps : Pairs) → rising low ((j, v) ∷ ps) ≡ true → (low ≤ j) × (j < 128) × (rising (suc j) ps ≡ true)
first_within low j v ps r =
    let a = and_parts (leb low j) _ r in
    let b = and_parts (ltb j 128) _ a.1 in
    (leb-true low j a.0, ltb-true j 128 b.0, b.1)

lower_absent : (low : ℕ) (ps : Pairs) (j : ℕ) → rising low ps ≡ true → j < low → lookup ps j ≡ None
lower_absent low [] j r h = refl
lower_absent low ((i, v) ∷ ps) j r h =
    let a = first_within low i v ps r in
    let ne : eqb j i ≡ false = ne_eqb j i (λ e. omega (arith, a.0)) in
    rw ne (lower_absent (suc i) ps j a.2 (omega (arith, a.0)))

none_within : (low : ℕ) (ps : Pairs) (j : ℕ) → rising low ps ≡ true → 128 ≤ j → lookup ps j ≡ None
none_within low [] j r h = refl
none_within low ((i, v) ∷ ps) j r h =
    let a = first_within low i v ps r in
    let ne : eqb j i ≡ false = ne_eqb j i (λ e. omega (arith, a.1)) in
    rw ne (none_within (suc i) ps j a.2 h)

pub stands_within : (ps : Pairs) (j : ℕ) → rising 0 ps ≡ true → stands ps j ≡ true → j < 128
stands_within ps j r s =
    ⊎_elim (λ h. h) (λ h. let n = none_within 0 ps j r h in let z : ◌≡◌ {A = Bool} true false = sym s ∙ ap is_some n in let y : ◌≡◌ {A = ℕ} 0 1 = cc in absurd (omega arith)) (below j)
  where
    below : (n : ℕ) → (n < 128) ⊎ (128 ≤ n)
    below n = cases_lt n 128

-- ---- as own writes

abbrev pub own_from : Pairs → (ℕ → Option ℕ) → ℕ → Option ℕ
own_from [] own = own
own_from ((j, v) ∷ ps) own = own_from ps (with_write own j v)

abbrev picked : Option ℕ → Option ℕ → Option ℕ
picked (Some v) o = Some v
picked None o = o

picked_none : (o : Option ℕ) → picked o None ≡ o
picked_none (Some v) = refl
picked_none None = refl

own_lookup : (low : ℕ) (ps : Pairs) (own : ℕ → Option ℕ) (j : ℕ) → rising low ps ≡ true → own_from ps own j ≡ picked (lookup ps j) (own j)
own_lookup low [] own j r = refl
own_lookup low ((i, v) ∷ ps) own j r =
    let a = first_within low i v ps r in
    let rest = own_lookup (suc i) ps (with_write own i v) j a.2 in
    ⊎_elim
    (λ e.
    let t : eqb j i ≡ true = eq-eqb j i e in
    let n : lookup ps j ≡ None = lower_absent (suc i) ps j a.2 (omega arith) in
    rest ∙ rw (n, t))
    (λ ne. let f : eqb j i ≡ false = ne_eqb j i ne in rest ∙ rw f)
    (cases_eq j i)

pub own_is_lookup : (ps : Pairs) → rising 0 ps ≡ true → own_from ps no_writes ≡ lookup ps
own_is_lookup ps r = λ i j. (own_lookup 0 ps no_writes j r ∙ picked_none (lookup ps j)) i

-- ---- played

same_over : (o : Option ℕ) (x : ℕ) → or_else o x ≡ over o x
same_over (Some v) x = refl
same_over None x = refl

pub played_is_play : (ps : Pairs) (b : Board) → played (lookup ps) b ≡ play ps b
played_is_play ps b =
    let l = length-played (lookup ps) b in
    let k = length-play ps b in
    ext_get_or 0 _ _ (omega arith)
    (λ j h.
    let w : j < length b = omega arith in
    get_or-played (lookup ps) b j w ∙ same_over (lookup ps j) (get_or b j 0) ∙ sym (value_play ps b j w))
