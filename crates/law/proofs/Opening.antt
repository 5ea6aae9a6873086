-- Opening a bank: what is accepted, and that it is sound; and every call, opened or not.
use Rattle.std.proofs.Common.{◌≡◌, ℕ, zero, suc, ◌-◌, ◌<◌, Bool, true, false, cond, eqb, ltb, leb, List, [], ◌∷◌, map, length, replicate, sym, refl, ap, ◌∙◌, subst, arith}
use mathlib.Core.Path.{fun_ext}
use Rattle.std.proofs.lemmas.List.{ext_get_or}
use Rattle.std.proofs.lemmas.Bool.{both_ways, eqb-true, leb-true, ltb-false, not-false, or_parts}
use Rattle.tickets.specs.Boards.{Board, value}
use Rattle.law.specs.Coupled.{Coupled}
use Rattle.law.specs.History.{Answer, accepted}
use Rattle.law.specs.History.Answer.{done, refused}
use Rattle.law.specs.Opening.{LawfulBank, PlainBoard, first_object, is_used, open_from, opening, start_of, store_at, too_high, unless_found, unlike}
use Rattle.law.specs.Orderly.{Orderly}
use Rattle.law.specs.Plain.{just_opened}
use Rattle.law.specs.Sound.{EveryCall, EveryMaking, EveryOpening, Follows, Middle, Unused, bank_of, with_start}
use Rattle.law.specs.Store.{Store, open_count}
use Rattle.law.specs.World.{World, board_of, world_plain}
use Rattle.law.proofs.Numbers.{Lowest, lowest_is}
use Rattle.law.proofs.Queues.{orderly_opened}
use Rattle.law.proofs.SimulatedSteps.{every_world_call}

-- a store that opening accepted
record Accepted (start : Board) (σ : Store) : Type 0 where
  unused : is_used σ ≡ false
  same : (j : ℕ) → j < 128 → value start j ≡ value σ.board j

-- what is accepted found nothing
found_none : (r n k : ℕ) (a : Answer) → unless_found r n k a ≡ done → (r ≡ 0) × (a ≡ done)
found_none zero n k a e = (refl, e)
found_none (suc j) n k a e = absurd (let z : ◌≡◌ {A = ℕ} 0 1 = cc in omega arith)

unused_first : (b : Bool) (vs : List ℕ) (a : Answer) → cond b (refused 11 vs) a ≡ done → (b ≡ false) × (a ≡ done)
unused_first true vs a e = absurd (let z : ◌≡◌ {A = ℕ} 0 1 = cc in omega arith)
unused_first false vs a e = (refl, e)

-- no object fails where none is found
no_object : (f : ℕ → Bool) → first_object f ≡ 0 → (j : ℕ) → j < 128 → f j ≡ false
unfolding first_object
no_object f e j l =
    let h : Lowest (λ i. f (i - 1)) 128 0 = subst (Lowest (λ i. f (i - 1)) 128) e (lowest_is (λ i. f (i - 1)) 128) in
    let d : suc j - 1 ≡ j = omega arith in
    ap f (sym d) ∙ h (suc j) (omega arith) (omega arith)

accepted_from : (start : Board) (k : ℕ) (bank : List Store) → open_from start k bank ≡ done → (o : ℕ) → o < length bank → Accepted start (store_at bank o)
unfolding open_from
accepted_from start k [] e = λ o l. absurd (omega arith)
accepted_from start k (σ ∷ bank) e = at (accepted_from start (suc k) bank c.1)
  where
    a : (is_used σ ≡ false) × (unless_found (first_object (too_high σ.board)) 12 k (unless_found (first_object (unlike start σ.board)) 13 k (open_from start (suc k) bank)) ≡ done)
    a = unused_first (is_used σ) (k ∷ []) _ e

    c : (first_object (unlike start σ.board) ≡ 0) × (open_from start (suc k) bank ≡ done)
    c = found_none (first_object (unlike start σ.board)) 13 k (open_from start (suc k) bank) (found_none (first_object (too_high σ.board)) 12 k _ a.1).1

    at : ((o : ℕ) → o < length bank → Accepted start (store_at bank o)) → (o : ℕ) → o < suc (length bank) → Accepted start (store_at (σ ∷ bank) o)
    at rest zero l = record { unused = a.0; same = λ j s. eqb-true (value start j) (value σ.board j) (not-false (eqb (value start j) (value σ.board j)) (no_object (unlike start σ.board) c.0 j s)) }
    at rest (suc o) l = rest o (omega arith)

-- an opening is done or refused
refused_no : (n : ℕ) (vs : List ℕ) → accepted (refused n vs) ≡ true → refused n vs ≡ done
refused_no n vs e = absurd (both_ways false refl e)

found_done : (r n k : ℕ) (a : Answer) → (accepted a ≡ true → a ≡ done) → accepted (unless_found r n k a) ≡ true → unless_found r n k a ≡ done
found_done zero n k a f e = f e
found_done (suc j) n k a f e = refused_no n (k ∷ j ∷ []) e

cond_done : (b : Bool) (x y : Answer) → (accepted x ≡ true → x ≡ done) → (accepted y ≡ true → y ≡ done) → accepted (cond b x y) ≡ true → cond b x y ≡ done
cond_done true x y f g e = f e
cond_done false x y f g e = g e

from_done : (start : Board) (k : ℕ) (bank : List Store) → accepted (open_from start k bank) ≡ true → open_from start k bank ≡ done
unfolding open_from
from_done start k [] e = refl
from_done start k (σ ∷ bank) e =
    cond_done (is_used σ) (refused 11 (k ∷ [])) _ (refused_no 11 (k ∷ []))
    (found_done (first_object (too_high σ.board)) 12 k _ (found_done (first_object (unlike start σ.board)) 13 k _ (from_done start (suc k) bank))) e

pub accepted_done : (bank : List Store) → accepted (opening bank) ≡ true → opening bank ≡ done
accepted_done bank = cond_done (leb (length bank) 8) (open_from (start_of bank) 0 bank) (refused 10 []) (from_done (start_of bank) 0 bank) (refused_no 10 [])

-- an opened middleware over a bank
abbrev opened_world : List Store → World
opened_world bank = record { start = start_of bank; sets = []; applied = λ _ _. false; entries = []; bank = bank }

module _ (bank : List Store) (lawful : LawfulBank bank) (ok : opening bank ≡ done) where
  few : (b : Bool) → cond b (open_from (start_of bank) 0 bank) (refused 10 []) ≡ done → (b ≡ true) × (open_from (start_of bank) 0 bank ≡ done)
  few true e = (refl, e)
  few false e = absurd (let z : ◌≡◌ {A = ℕ} 0 1 = cc in omega arith)

  each : (k : ℕ) → k < length bank → Accepted (start_of bank) (store_at bank k)
  each = accepted_from (start_of bank) 0 bank (few (leb (length bank) 8) ok).1

  same_board : (k : ℕ) → k < length bank → (store_at bank k).board ≡ start_of bank
  same_board k l = ext_get_or 0 (store_at bank k).board (start_of bank) ((lawful k l).whole ∙ sym (lawful 0 (omega arith)).whole) (λ j i. sym ((each k l).same j (omega (arith, (lawful k l).whole))))

  -- the copies of such a bank are one board
  copies : (b : Board) (l : List Store) → ((k : ℕ) → k < length l → (store_at l k).board ≡ b) → map board_of l ≡ replicate (length l) b
  copies b [] h = refl
  copies b (σ ∷ l) h = let ih = copies b l (λ k c. h (suc k) (omega arith)) in let e : σ.board ≡ b = h 0 (omega arith) in cc

  plain_opened : world_plain (opened_world bank) ≡ just_opened (start_of bank) (length bank)
  plain_opened = ap (λ (l : List Board). record { start = start_of bank; sets = []; boards = l; applied = λ _ _. false; transactions = [] }) (copies (start_of bank) bank same_board)

  coupled_opened : Coupled (opened_world bank)
  coupled_opened =
      record {
        orderly = subst Orderly (sym plain_opened) (orderly_opened (start_of bank) (length bank));
        eight = leb-true (length bank) 8 (few (leb (length bank) 8) ok).0;
        stores = λ k b. let u = or_parts (ltb 0 (store_at bank k).commits) (ltb 0 (open_count (store_at bank k).places)) (each k b).unused in
            record { commits = omega (arith, ltb-false 0 (store_at bank k).commits u.0); most = (lawful k b).least_most; places = (lawful k b).least_places; opens = omega (arith, ltb-false 0 (open_count (store_at bank k).places) u.1) };
        held = λ t a b. absurd (omega arith);
        apart = λ t o a b. absurd (omega arith);
      }

-- a middleware that is not opened yet opens to that one
with_start_is : (w : World) → Unused w → with_start w ≡ opened_world w.bank
with_start_is w u =
    let a : w.applied ≡ (λ _ _. false) = fun_ext (λ k. fun_ext (λ n. u.applied k n)) in
    rw (u.sets, u.entries, a)

pub every_making : EveryMaking
every_making bank lawful = record { sets = refl; applied = λ k n. refl; entries = refl; lawful = lawful }

pub every_opening : EveryOpening
every_opening (Middle.opened w) q = (record { answer = refl; after = refl; sound = q }, refl)
every_opening (Middle.unopened w) q = go (accepted (opening w.bank)) refl
  where
    go : (b : Bool) → accepted (opening w.bank) ≡ b →
        Follows (opening w.bank, cond b (PlainBoard.opened (just_opened (start_of w.bank) (length w.bank))) PlainBoard.unopened) (opening w.bank) (cond b (Middle.opened (with_start w)) (Middle.unopened w)) × (bank_of (cond b (Middle.opened (with_start w)) (Middle.unopened w)) ≡ w.bank)
    go true e =
        let ok : opening w.bank ≡ done = accepted_done w.bank e in
        let is : with_start w ≡ opened_world w.bank = with_start_is w q in
        (record { answer = refl; after = ap PlainBoard.opened (ap world_plain is ∙ plain_opened w.bank q.lawful ok); sound = subst Coupled (sym is) (coupled_opened w.bank q.lawful ok) }, refl)
    go false e = (record { answer = refl; after = refl; sound = q }, refl)

-- a call of a middleware, opened or not
pub every_call : EveryCall
every_call pick picks c (Middle.unopened w) q = record { answer = refl; after = refl; sound = q }
every_call pick picks c (Middle.opened w) q =
    let f = every_world_call pick picks c w q in
    record { answer = f.answer; after = ap PlainBoard.opened f.after; sound = f.coupled }
