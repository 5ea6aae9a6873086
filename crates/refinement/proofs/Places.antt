-- The place that the machine takes: the first of the places 0 to 15 that is not open.
use Rattle.std.proofs.Common.{◌≡◌, ℕ, zero, suc, ◌+◌, ◌<◌, ◌≤◌, Bool, true, false, cond, not, ◌⊎◌, List, [], ◌∷◌, map, length, get_or, is_some, Some, None, Ok, Option, refl, ap, ◌∙◌, inl, inr, ⊎_elim, arith}
use lib.ListN.{length-map}
use Rattle.std.proofs.lemmas.List.{get_or-map}
use Rattle.std.proofs.lemmas.Bool.{cases_eq, lt-ltb}
use Rattle.stores.specs.Model.{StoreModel, Place, open_answer}
use Rattle.banks.specs.Model as banks
use Rattle.errands.specs.Places.{is_vacant, vacant_at, vacant_from, vacant}
use Rattle.law.specs.Numbers.{tally}
use Rattle.law.specs.Store.{is_open}
use Rattle.law.specs.World.{Picks}
use Rattle.refinement.specs.Stores.{law_place, law_store}
use Rattle.refinement.proofs.Banks.{asked_is}

-- the first of the n places from p on that is not open; 0 where all are
pub shut_from : List Bool → ℕ → ℕ → ℕ
shut_from l p zero = 0
shut_from l p (suc n) = cond (get_or l p true) (shut_from l (p + 1) n) p

pub first_of_sixteen : List Bool → ℕ
first_of_sixteen l = shut_from l 0 16

-- ---- it picks a place that is not open

abbrev Shut : List Bool → ℕ → Type 0
Shut l r = (r < length l) × (get_or l r true ≡ false)

abbrev AllOpen : List Bool → ℕ → ℕ → Type 0
AllOpen l p n = (i : ℕ) → p ≤ i → i < p + n → get_or l i true ≡ true

shut_or_open : (l : List Bool) (p n : ℕ) → p + n ≤ length l → Shut l (shut_from l p n) ⊎ AllOpen l p n
unfolding shut_from
shut_or_open l p zero h = inr (λ i a b. absurd (omega arith))
shut_or_open l p (suc n) h = go (get_or l p true) refl (shut_or_open l (p + 1) n (omega arith))
  where
    go : (b : Bool) → get_or l p true ≡ b → Shut l (shut_from l (p + 1) n) ⊎ AllOpen l (p + 1) n → Shut l (cond b (shut_from l (p + 1) n) p) ⊎ AllOpen l p (suc n)
    go true e (inl s) = inl s
    go true e (inr o) = inr (λ i a b. ⊎_elim (λ (d : i ≡ p). rw d e) (λ (d : i ≡ p → ⊥). o i (omega arith) (omega arith)) (cases_eq i p))
    go false e r = inl (omega arith, e)

many_open : (l : List Bool) (n : ℕ) → n ≤ length l → ((i : ℕ) → i < n → get_or l i true ≡ true) → n ≤ tally (λ b. b) l
many_open l zero h o = omega arith
many_open [] (suc n) h o = absurd (omega arith)
many_open (b ∷ l) (suc n) h o = let ih = many_open l n (omega arith) (λ i k. o (suc i) (omega arith)) in let e : b ≡ true = o 0 (omega arith) in rw e (omega arith)

pub sixteen_picks : Picks first_of_sixteen
unfolding first_of_sixteen
sixteen_picks l h few = go (shut_or_open l 0 16 (omega arith))
  where
    go : Shut l (shut_from l 0 16) ⊎ AllOpen l 0 16 → (shut_from l 0 16 < length l) × (get_or l (shut_from l 0 16) true ≡ false)
    go (inl s) = s
    go (inr o) = absurd (omega (arith, many_open l 16 h (λ i k. o i (omega arith) (omega arith))))

-- ---- it is the machine's

module _ (ms : List StoreModel) (k : ℕ) (l : k < length ms) where
  abbrev m : StoreModel
  m = banks.store_at ms k

  abbrev opens : List Bool
  opens = map is_open (law_store m).places

  same_open : (o : Option Place) → is_open (law_place o) ≡ is_some o
  same_open None = refl
  same_open (Some x) = refl

  vacant_is_at : (p : ℕ) → p < length m.places → vacant_at ms k p ≡ not (get_or opens p true)
  vacant_is_at p h =
      let e : get_or opens p true ≡ is_some (get_or m.places p None) = get_or-map is_open (map law_place m.places) p None true (omega (arith, length-map m.places law_place)) ∙ (ap is_open (get_or-map law_place m.places p None None h) ∙ same_open (get_or m.places p None)) in
      rw (asked_is ms k (λ a. open_answer a p) l, lt-ltb p (length m.places) h, e) (flip (is_some (get_or m.places p None)))
    where
      flip : (b : Bool) → is_vacant (Ok b) ≡ not b
      flip true = refl
      flip false = refl

  vacant_is_from : (p n : ℕ) → p + n ≤ length m.places → vacant_from ms k p n ≡ shut_from opens p n
  unfolding vacant_from shut_from
  vacant_is_from p zero h = refl
  vacant_is_from p (suc n) h = rw (vacant_is_at p (omega arith), vacant_is_from (p + 1) n (omega arith)) (flip (get_or opens p true))
    where
      flip : (b : Bool) → cond (not b) p (shut_from opens (p + 1) n) ≡ cond b (shut_from opens (p + 1) n) p
      flip true = refl
      flip false = refl

  pub vacant_is : 16 ≤ length m.places → vacant ms k ≡ first_of_sixteen opens
  unfolding first_of_sixteen
  vacant_is h = vacant_is_from 0 16 (omega arith)
