-- Whether some write is to a marked object, by the pairs. Assumes nothing.
use Rattle.std.proofs.Common.{◌≡◌, ℕ, zero, suc, ◌<◌, ◌≤◌, Bool, true, false, ◌&&◌, ◌||◌, List, [], ◌∷◌, is_some, Option, sym, refl, ap, ◌∙◌, ⊎_elim, arith}
use Rattle.std.specs.List.{list_any}
use Rattle.std.proofs.lemmas.Bool.{cases_eq}
use Rattle.std.proofs.lemmas.Bool.Decides.{nat_tests}
use Rattle.stores.specs.Model.{any_below, with_write}
use Rattle.tickets.specs.declared.pair.Pair.{Pair}
use Rattle.versions.specs.Pairs.{own_in, each_once}
use Rattle.versions.proofs.Pairs.{headed}

any_none : (n : ℕ) → any_below (λ j. false) n ≡ false
unfolding any_below
any_none zero = refl
any_none (suc n) = any_none n

module _ (own : ℕ → Option ℕ) (f : ℕ → Bool) (o v : ℕ) where
  clash_past : (n : ℕ) → n ≤ o → any_below (λ j. is_some (with_write own o v j) && f j) n ≡ any_below (λ j. is_some (own j) && f j) n
  unfolding any_below
  clash_past zero h = refl
  clash_past (suc n) h = let e = clash_past n (omega arith) in grind (arith, nat_tests)

  clash_with : (n : ℕ) → o < n → any_below (λ j. is_some (with_write own o v j) && f j) n ≡ (f o || any_below (λ j. is_some (own j) && f j) n)
  unfolding any_below
  clash_with zero h = absurd (omega arith)
  clash_with (suc n) h =
      ⊎_elim (λ q. let e = clash_past n (omega arith) in let g : f n ≡ f o = ap f (sym q) in grind (arith, nat_tests)) (λ ne. let e = clash_with n (omega (arith, ne)) in grind (arith, nat_tests)) (cases_eq o n)

pub clash_is : (f : ℕ → Bool) (ps : List Pair) → each_once ps ≡ true → any_below (λ j. is_some (own_in ps j) && f j) 128 ≡ list_any (λ p. f p.object) ps
unfolding own_in
clash_is f [] e = any_none 128
clash_is f (p ∷ ps) e =
    let d = headed p ps e in
    clash_with (own_in ps) f p.object p.value 128 d.below ∙ ap (λ b. f p.object || b) (clash_is f ps d.rest)
