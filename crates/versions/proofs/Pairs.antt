-- Own writes as pairs: one pair is looked at, put in or put over. Assumes nothing.
use Rattle.std.proofs.Common.{◌≡◌, ℕ, zero, suc, ◌+◌, ◌<◌, ◌≤◌, Bool, true, false, cond, not, eqb, List, [], ◌∷◌, ◌++◌, length, get_or, drop, set, is_some, Some, None, Option, sym, refl, ap, ◌∙◌, ⊎_elim, arith}
use Rattle.std.specs.List.{find, position_or_len}
use Rattle.std.specs.Option.{option_map}
use Rattle.std.proofs.lemmas.List.{at_drop_more}
use Rattle.std.proofs.lemmas.Bool.{ltb-true, lt-ltb, eq-eqb, ne_eqb, eqb-false, cases_eq, and_parts, and_from}
use Rattle.std.proofs.lemmas.Bool.Decides.{nat_tests}
use Rattle.stores.specs.Model.{with_write}
use Rattle.tickets.specs.declared.pair.Pair.{Pair}
use Rattle.versions.specs.Pairs.{own_in, each_once, no_pair}

none_from : (o : Option ℕ) → not (is_some o) ≡ true → o ≡ None
none_from None e = refl
none_from (Some v) e = let z : ◌≡◌ {A = ℕ} 0 1 = cc in absurd (omega arith)

-- the first pair's object lies below 128, no other pair has it, and the others stand once too
pub record Headed (p : Pair) (ps : List Pair) : Type 0 where
  pub below : p.object < 128
  pub alone : own_in ps p.object ≡ None
  pub rest : each_once ps ≡ true

pub headed : (p : Pair) (ps : List Pair) → each_once (p ∷ ps) ≡ true → Headed p ps
unfolding each_once
headed p ps e =
    let a = and_parts _ _ e in
    let b = and_parts _ _ a.1 in
    record { below = ltb-true p.object 128 a.0; alone = none_from _ b.0; rest = b.1 }

pub once_from : (p : Pair) (ps : List Pair) → Headed p ps → each_once (p ∷ ps) ≡ true
unfolding each_once
once_from p ps h =
    and_from _ _ (lt-ltb p.object 128 h.below) (and_from _ _ (ap (λ o. not (is_some o)) h.alone) h.rest)

pub once_drop : (i : ℕ) (ps : List Pair) → each_once ps ≡ true → each_once (drop i ps) ≡ true
once_drop zero ps e = e
once_drop (suc i) [] e = e
once_drop (suc i) (p ∷ ps) e = once_drop i ps (headed p ps e).rest

-- the pair at index i, and those past it
pub headed_at : (ps : List Pair) → each_once ps ≡ true → (i : ℕ) → i < length ps → Headed (get_or ps i no_pair) (drop (i + 1) ps)
headed_at ps e i h = headed _ _ (sym (at_drop_more each_once ps i no_pair h) ∙ once_drop i ps e)

-- no object from 128 on is written
pub none_past : (ps : List Pair) → each_once ps ≡ true → (j : ℕ) → 128 ≤ j → own_in ps j ≡ None
unfolding own_in
none_past [] e j h = refl
none_past (p ∷ ps) e j h =
    let d = headed p ps e in
    let n : eqb j p.object ≡ false = ne_eqb j p.object (λ q. omega (arith, d.below)) in
    rw n (none_past ps d.rest j h)

apart : (own : ℕ → Option ℕ) (j k v : ℕ) → own j ≡ Some v → own k ≡ None → j ≡ k → ⊥
apart own j k v e n q = let f : own j ≡ own k = ap own q in let z : ◌≡◌ {A = ℕ} 0 1 = cc in omega arith

-- the write of the pair at index i
pub own_at : (ps : List Pair) (i : ℕ) → each_once ps ≡ true → i < length ps → own_in ps (get_or ps i no_pair).object ≡ Some (get_or ps i no_pair).value
unfolding own_in
own_at [] i e h = absurd (omega arith)
own_at (p ∷ ps) zero e h = let n : eqb p.object p.object ≡ true = eq-eqb _ _ refl in rw n
own_at (p ∷ ps) (suc i) e h =
    let d = headed p ps e in
    let at = own_at ps i d.rest (omega arith) in
    let n : eqb (get_or ps i no_pair).object p.object ≡ false = ne_eqb _ _ (apart (own_in ps) _ _ _ at d.alone) in
    rw n at

neither : (b : Bool) (v : ℕ) (o : Option ℕ) → cond b (Some v) o ≡ None → (b ≡ false) × (o ≡ None)
neither true v o e = let z : ◌≡◌ {A = ℕ} 0 1 = cc in absurd (omega arith)
neither false v o e = (refl, e)

-- looking for the pair of an object
pub own_found : (ps : List Pair) (j : ℕ) → own_in ps j ≡ option_map (λ p. p.value) (find (λ p. eqb p.object j) ps)
unfolding own_in
own_found [] j = refl
own_found (p ∷ ps) j = let e = own_found ps j in grind (arith, nat_tests)

pub own_nowhere : (ps : List Pair) (j : ℕ) → length ps ≤ position_or_len (λ p. eqb p.object j) ps → own_in ps j ≡ None
unfolding own_in
own_nowhere [] j h = refl
own_nowhere (p ∷ ps) j h =
    ⊎_elim (λ q. let b : eqb p.object j ≡ true = eq-eqb _ _ q in absurd (omega (arith, rw b at h)))
    (λ ne.
    let b : eqb p.object j ≡ false = ne_eqb _ _ ne in
    let n : eqb j p.object ≡ false = ne_eqb _ _ (λ q. ne (sym q)) in
    rw n (own_nowhere ps j (omega (arith, rw b at h)))) (cases_eq p.object j)

-- pairs that have come from others by writing one
pub record Wrote (ps : List Pair) (q : Pair) (new : List Pair) : Type 0 where
  pub own : (j : ℕ) → own_in new j ≡ with_write (own_in ps) q.object q.value j
  pub once : each_once new ≡ true

-- behind a pair of another object
wrote_behind : (p q : Pair) (ps new : List Pair) → Headed p ps → (p.object ≡ q.object → ⊥) → Wrote ps q new → Wrote (p ∷ ps) q (p ∷ new)
unfolding own_in
wrote_behind p q ps new h ne w =
    record {
      own = λ j. let e = w.own j in grind (arith, nat_tests);
      once = once_from p new (record { below = h.below; alone = let e = w.own p.object in let a = h.alone in grind (arith, nat_tests); rest = w.once });
    }

pub write_new : (ps : List Pair) (q : Pair) → each_once ps ≡ true → q.object < 128 → own_in ps q.object ≡ None → Wrote ps q (ps ++ q ∷ [])
unfolding own_in each_once
write_new [] q e h n = record { own = λ j. refl; once = once_from q [] (record { below = h; alone = refl; rest = refl }) }
write_new (p ∷ ps) q e h n =
    let d = headed p ps e in
    let a = neither (eqb q.object p.object) p.value (own_in ps q.object) n in
    wrote_behind p q ps (ps ++ q ∷ []) d (λ r. eqb-false q.object p.object a.0 (sym r)) (write_new ps q d.rest h a.1)

pub write_over : (ps : List Pair) (q : Pair) (i : ℕ) → each_once ps ≡ true → i < length ps → (get_or ps i no_pair).object ≡ q.object → Wrote ps q (set ps i q)
unfolding own_in
write_over [] q i e h o = absurd (omega arith)
write_over (p ∷ ps) q zero e h o =
    let d = headed p ps e in
    record { own = λ j. grind (arith, nat_tests); once = once_from q ps (record { below = omega (arith, d.below); alone = ap (own_in ps) (sym o) ∙ d.alone; rest = d.rest }) }
write_over (p ∷ ps) q (suc i) e h o =
    let d = headed p ps e in
    let at = own_at ps i d.rest (omega arith) in
    wrote_behind p q ps (set ps i q) d (λ r. apart (own_in ps) _ _ _ at d.alone (o ∙ sym r)) (write_over ps q i d.rest (omega arith) o)
