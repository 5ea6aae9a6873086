-- The lowest write from an object on: that of the pair of the lowest object there. Assumes nothing.
use Rattle.std.proofs.Common.{◌≡◌, ℕ, zero, suc, ◌+◌, ◌-◌, ◌<◌, ◌≤◌, Bool, true, false, cond, eqb, leb, List, [], ◌∷◌, length, get_or, Some, None, Option, sym, refl, ap, ◌∙◌, subst, ⊎_elim, arith}
use Rattle.std.specs.List.{filter, All, Contains}
use Rattle.std.specs.Option.{MatchOption}
use Rattle.std.proofs.lemmas.List.Elements.{filter_passes}
use Rattle.std.proofs.lemmas.List.{get_or_default}
use Rattle.std.proofs.lemmas.Bool.{cases_eq, ne_eqb, leb-true, leb-false}
use Rattle.stores.specs.Model.{no_writes, first_from, told_or}
use Rattle.tickets.specs.declared.pair.Pair.{Pair}
use Rattle.versions.specs.Pairs.{own_in, each_once, no_pair}
use Rattle.versions.proofs.Pairs.{headed, once_from, headed_at, own_at}

-- ---- the first write of any writes

first_none : (j n : ℕ) → first_from no_writes j n ≡ None
unfolding first_from
first_none j zero = refl
first_none j (suc n) = first_none (j + 1) n

first_same : (f g : ℕ → Option ℕ) (j n : ℕ) → ((i : ℕ) → j ≤ i → f i ≡ g i) → first_from f j n ≡ first_from g j n
unfolding first_from
first_same f g j zero e = refl
first_same f g j (suc n) e = λ t. told_or j (e j (omega arith) t) (first_same f g (j + 1) n (λ i h. e i (omega arith)) t)

first_at : (own : ℕ → Option ℕ) (k v j n : ℕ) → own k ≡ Some v → j ≤ k → k < j + n → ((i : ℕ) → i < k → own i ≡ None) → first_from own j n ≡ Some (record { object = k; value = v })
unfolding first_from
first_at own k v j zero e l h none = absurd (omega arith)
first_at own k v j (suc n) e l h none =
    let rest = first_from own (j + 1) n in
    ⊎_elim
    (λ q. ap (λ o. told_or j o rest) (ap own q ∙ e) ∙ ap (λ i. Some (record { object = i; value = v })) q)
    (λ ne. ap (λ o. told_or j o rest) (none j (omega (arith, ne))) ∙ first_at own k v (j + 1) n e (omega (arith, ne)) (omega arith) none)
    (cases_eq j k)

-- ---- the pairs from an object on

from : ℕ → List Pair → List Pair
from j ps = filter (λ p. leb j p.object) ps

own_kept : (b : Bool) (p : Pair) (ps qs : List Pair) (i : ℕ) → (b ≡ false → eqb i p.object ≡ false) → own_in qs i ≡ own_in ps i → own_in (cond b (p ∷ qs) qs) i ≡ own_in (p ∷ ps) i
unfolding own_in
own_kept true p ps qs i n e = ap (λ o. cond (eqb i p.object) (Some p.value) o) e
own_kept false p ps qs i n e = let f : eqb i p.object ≡ false = n refl in rw f e

-- they write to those objects what all the pairs do
own_from : (j : ℕ) (ps : List Pair) (i : ℕ) → j ≤ i → own_in (from j ps) i ≡ own_in ps i
unfolding own_in from
own_from j [] i h = refl
own_from j (p ∷ ps) i h = own_kept (leb j p.object) p ps (from j ps) i (λ e. ne_eqb i p.object (λ q. omega (arith, leb-false j p.object e))) (own_from j ps i h)

once_kept : (b : Bool) (p : Pair) (qs : List Pair) → (b ≡ true → each_once (p ∷ qs) ≡ true) → each_once qs ≡ true → each_once (cond b (p ∷ qs) qs) ≡ true
once_kept true p qs e f = e refl
once_kept false p qs e f = f

once_from_object : (j : ℕ) (ps : List Pair) → each_once ps ≡ true → each_once (from j ps) ≡ true
unfolding from
once_from_object j [] e = e
once_from_object j (p ∷ ps) e =
    let d = headed p ps e in
    let rest = once_from_object j ps d.rest in
    once_kept (leb j p.object) p (from j ps) (λ b. once_from p (from j ps) (record { below = d.below; alone = own_from j ps p.object (leb-true j p.object b) ∙ d.alone; rest = rest })) rest

-- below the lowest of some pairs there is no write
none_lower : (k : ℕ) (ps : List Pair) → All (λ p. k ≤ p.object) ps → (i : ℕ) → i < k → own_in ps i ≡ None
unfolding own_in
none_lower k [] all i h = refl
none_lower k (p ∷ ps) all i h =
    let n : eqb i p.object ≡ false = ne_eqb i p.object (λ q. omega (arith, all 0 p (omega arith))) in
    rw n (none_lower k ps (λ q d l. all (suc q) d (omega arith)) i h)

found_in : (ps : List Pair) (j : ℕ) (m : Pair) → each_once ps ≡ true → All (λ p. leb j p.object ≡ true) ps → Contains ps m → All (λ p. m.object ≤ p.object) ps → first_from (own_in ps) j (128 - j) ≡ Some m
found_in ps j m once low (k, h, is) all =
    let at : get_or ps k no_pair ≡ m = get_or_default ps k no_pair m h ∙ is in
    let value : own_in ps m.object ≡ Some m.value = subst (λ (q : Pair). own_in ps q.object ≡ Some q.value) at (own_at ps k once h) in
    let below : m.object < 128 = subst (λ (q : Pair). q.object < 128) at (headed_at ps once k h).below in
    let up : j ≤ m.object = leb-true j m.object (ap (λ (q : Pair). leb j q.object) (sym is) ∙ low k m h) in
    first_at (own_in ps) m.object m.value j (128 - j) value up (omega arith) (none_lower m.object ps all)

none_in : (ps : List Pair) (j n : ℕ) → length ps ≡ 0 → first_from (own_in ps) j n ≡ None
unfolding own_in
none_in [] j n e = first_none j n
none_in (p ∷ ps) j n e = absurd (omega arith)

found_from : (ps : List Pair) (j : ℕ) (r : Option Pair) → each_once ps ≡ true
    → MatchOption r (length (from j ps) ≡ 0) (λ m. Contains (from j ps) m × All (λ p. m.object ≤ p.object) (from j ps)) → first_from (own_in (from j ps)) j (128 - j) ≡ r
unfolding from
found_from ps j None once e = none_in (from j ps) j (128 - j) e
found_from ps j (Some m) once e = found_in (from j ps) j m (once_from_object j ps once) (filter_passes (λ p. leb j p.object) ps) e.0 e.1

pub least_is_first : (ps : List Pair) (j : ℕ) (r : Option Pair) → each_once ps ≡ true
    → MatchOption r (length (filter (λ p. leb j p.object) ps) ≡ 0) (λ m. Contains (filter (λ p. leb j p.object) ps) m × All (λ p. m.object ≤ p.object) (filter (λ p. leb j p.object) ps))
    → r ≡ first_from (own_in ps) j (128 - j)
unfolding from
least_is_first ps j r once e = sym (found_from ps j r once e) ∙ first_same (own_in (from j ps)) (own_in ps) j (128 - j) (own_from j ps)
