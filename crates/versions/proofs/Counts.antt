-- How many objects are written: as many as there are pairs. Assumes nothing.
use Rattle.std.proofs.Common.{◌≡◌, ℕ, zero, suc, ◌+◌, ◌<◌, ◌≤◌, true, false, List, [], ◌∷◌, length, is_some, None, Option, sym, refl, ap, ◌∙◌, ⊎_elim, arith}
use Rattle.std.proofs.lemmas.Bool.{cases_eq}
use Rattle.std.proofs.lemmas.Bool.Decides.{nat_tests}
use Rattle.stores.specs.Model.{count_below, with_write}
use Rattle.tickets.specs.declared.pair.Pair.{Pair}
use Rattle.versions.specs.Pairs.{own_in, each_once}
use Rattle.versions.specs.Writes.{count_of}
use Rattle.versions.proofs.Pairs.{headed}

count_none : (n : ℕ) → count_below (λ j. false) n ≡ 0
unfolding count_below
count_none zero = refl
count_none (suc n) = let e = count_none n in omega arith

-- a write to an object from n on is not among the objects below n
count_past : (own : ℕ → Option ℕ) (o v n : ℕ) → n ≤ o → count_below (λ j. is_some (with_write own o v j)) n ≡ count_below (λ j. is_some (own j)) n
unfolding count_below
count_past own o v zero h = refl
count_past own o v (suc n) h = let e = count_past own o v n (omega arith) in grind (arith, nat_tests)

count_with : (own : ℕ → Option ℕ) (o v n : ℕ) → own o ≡ None → o < n → count_below (λ j. is_some (with_write own o v j)) n ≡ count_below (λ j. is_some (own j)) n + 1
unfolding count_below
count_with own o v zero e h = absurd (omega arith)
count_with own o v (suc n) e h =
    ⊎_elim
    (λ q. let c = count_past own o v n (omega arith) in let f : own n ≡ None = ap own (sym q) ∙ e in grind (arith, nat_tests))
    (λ ne. let c = count_with own o v n e (omega (arith, ne)) in grind (arith, nat_tests))
    (cases_eq o n)

pub count_is : (ps : List Pair) → each_once ps ≡ true → count_of (own_in ps) ≡ length ps
unfolding own_in
count_is [] e = count_none 128
count_is (p ∷ ps) e =
    let d = headed p ps e in
    let c : count_of (own_in (p ∷ ps)) ≡ count_of (own_in ps) + 1 = count_with (own_in ps) p.object p.value 128 d.alone d.below in
    omega (arith, count_is ps d.rest)
