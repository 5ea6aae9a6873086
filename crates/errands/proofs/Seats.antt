-- The first place that is not open, as the library finds it.
use Rattle.std.proofs.Common.{◌≡◌, ℕ, zero, suc, ◌+◌, ◌<◌, ◌≤◌, Bool, true, false, cond, List, Some, None, refl, ap, ◌∙◌, inl, inr, arith}
use Rattle.std.proofs.lemmas.Bool.{cases_eq}
use Rattle.std.specs.List.{find, range_with_len}
use Rattle.std.specs.Option.{unwrap_or}
use Rattle.stores.specs.Model.{StoreModel}
use Rattle.errands.specs.Places.{vacant_at, vacant_from}

pub vacant_found : (ms : List StoreModel) (k p n : ℕ) → unwrap_or (find (vacant_at ms k) (range_with_len p n)) 0 ≡ vacant_from ms k p n
unfolding vacant_from
vacant_found ms k p zero = refl
vacant_found ms k p (suc n) =
    elim (vacant_at ms k p) as (λ b. unwrap_or (cond b (Some p) (find (vacant_at ms k) (range_with_len (p + 1) n))) 0 ≡ cond b p (vacant_from ms k (p + 1) n)) [ true ↦ refl | false ↦ vacant_found ms k (p + 1) n ]

none_from : (f : ℕ → Bool) (p n : ℕ) → find f (range_with_len p n) ≡ None → (q : ℕ) → p ≤ q → q < p + n → f q ≡ false
none_from f p zero e q l h = absurd (omega arith)
none_from f p (suc n) e q l h = in_turn (f p) refl (none_from f (p + 1) n) e
  where
    in_turn : (b : Bool) → f p ≡ b → (find f (range_with_len (p + 1) n) ≡ None → (q : ℕ) → p + 1 ≤ q → q < p + 1 + n → f q ≡ false) → cond b (Some p) (find f (range_with_len (p + 1) n)) ≡ None → f q ≡ false
    in_turn true t rest e = let z : ◌≡◌ {A = ℕ} 0 1 = cc in absurd (omega arith)
    in_turn false t rest e = elim (cases_eq q p) [ inl s ↦ ap f s ∙ t | inr ne ↦ rest e q (omega (arith, ne)) (omega arith) ]

-- where none is found, each of the places is open
pub none_vacant : (ms : List StoreModel) (k : ℕ) → find (vacant_at ms k) (range_with_len 0 16) ≡ None → (p : ℕ) → p < 16 → vacant_at ms k p ≡ false
none_vacant ms k e p h = none_from (vacant_at ms k) 0 16 e p (omega arith) (omega arith)
