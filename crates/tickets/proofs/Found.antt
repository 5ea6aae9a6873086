-- The pairs of the code, found and tested one by one, as the definitions over pairs of numbers have it.
use Rattle.std.proofs.Common.{◌≡◌, ℕ, ◌==◌, ◌||◌, cond, true, false, List, [], ◌∷◌, map, Some, None, Option, sym, refl, ap, ◌∙◌}
use Rattle.std.specs.Borrow.{Bor}
use Rattle.std.specs.List.{find, list_any}
use Rattle.std.specs.Option.{option_map}
use Rattle.tickets.specs.WriteSets.{Pairs, lookup, stands, shares}
use Rattle.tickets.specs.Meaning.{pair_of}
use Rattle.tickets.specs.declared.pair.Pair.{Pair}

lookup_found : (xs : List Pair) (j : ℕ) → lookup (map pair_of xs) j ≡ option_map (λ (p : Pair). p.value) (find (λ (p : Pair). j == p.object) xs)
lookup_found [] j = refl
lookup_found (p ∷ xs) j = elim (j == p.object) as (λ b. cond b (Some p.value) (lookup (map pair_of xs) j) ≡ option_map (λ (p : Pair). p.value) (cond b (Some p) (find (λ (p : Pair). j == p.object) xs))) [ true ↦ refl | false ↦ lookup_found xs j ]

-- the value of what a reference points to, where there is one
value_of_found : (o : Option (Bor Pair)) → option_map (λ (y : Bor Pair). y.now.value) o ≡ option_map (λ (p : Pair). p.value) (option_map (λ (y : Bor Pair). y.now) o)
value_of_found None = refl
value_of_found (Some y) = refl

pub lookup_first : (xs : List Pair) (j : ℕ) (o : Option (Bor Pair)) → option_map (λ (y : Bor Pair). y.now) o ≡ find (λ (p : Pair). j == p.object) xs → option_map (λ (y : Bor Pair). y.now.value) o ≡ lookup (map pair_of xs) j
lookup_first xs j o e = value_of_found o ∙ ap (option_map (λ (p : Pair). p.value)) e ∙ sym (lookup_found xs j)

pub shares_any : (xs : List Pair) (qs : Pairs) → shares (map pair_of xs) qs ≡ list_any (λ (p : Pair). stands qs p.object) xs
shares_any [] qs = refl
shares_any (p ∷ xs) qs = ap (λ b. stands qs p.object || b) (shares_any xs qs)
