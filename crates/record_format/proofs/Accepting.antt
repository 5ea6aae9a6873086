-- Pairs gathered one by one into a write set within the tops: each step, and where it fails.
use Rattle.std.proofs.Common.{◌≡◌, ℕ, zero, suc, ◌<◌, ◌≤◌, Bool, true, false, ◌&&◌, ltb, leb, [], ◌∷◌, ◌++◌, length, take, Some, None, Option, sym, refl, ap, ◌∙◌, inl, inr, arith}
use Rattle.std.proofs.lemmas.Bool.{and_parts, and_from, and_left, and_right, leb-true, le-leb, lt-ltb, cond-true, cond-false, cases_Bool, both_ways}
use Rattle.std.proofs.lemmas.List.{append_assoc, take_at, length-append, length-take-le}
use Rattle.tickets.specs.Boards.{top}
use Rattle.tickets.specs.WriteSets.{Pairs, rising, is_write_set}
use Rattle.tickets.specs.Meaning.{built, pairs}
use Rattle.tickets.specs.declared.write_set.WriteSet.{WriteSet}
use Rattle.record_format.specs.Items.{within_tops, topped, accepted}

none≢some : {A : Type 0} {x : A} → ◌≡◌ {A = Option A} None (Some x) → ⊥
none≢some e = let z : ◌≡◌ {A = ℕ} 0 1 = cc in omega arith

-- ---- the type of write sets keeps what makes one

pub is_a_write_set : (w : WriteSet) → is_write_set (pairs w) ≡ true
is_a_write_set w = w.stands

-- ---- a test of a pair, and a test of pairs

abbrev under_top : ℕ × ℕ → Bool
under_top p = leb p.1 (top p.0)

topped_some : {p q : ℕ × ℕ} → Some p ≡ topped q → (p ≡ q) × (under_top q ≡ true)
topped_some {p} {q} e =
    elim (cases_Bool (under_top q)) [
      | inl t ↦ (let f = e ∙ cond-true _ _ _ t in cc, t)
      | inr f ↦ absurd (none≢some (sym (e ∙ cond-false _ _ _ f)))
    ]

topped_none : (q : ℕ × ℕ) → None ≡ topped q → under_top q ≡ false
topped_none q e =
    elim (cases_Bool (under_top q)) [
      | inl t ↦ absurd (none≢some (e ∙ cond-true _ _ _ t))
      | inr f ↦ f
    ]

built_some : {ps qs : Pairs} → Some qs ≡ built ps → qs ≡ ps
built_some {ps} {qs} e =
    elim (cases_Bool (is_write_set ps)) [
      | inl t ↦ let f = e ∙ cond-true _ _ _ t in cc
      | inr f ↦ absurd (none≢some (sym (e ∙ cond-false _ _ _ f)))
    ]

built_none : (ps : Pairs) → None ≡ built ps → is_write_set ps ≡ false
built_none ps e =
    elim (cases_Bool (is_write_set ps)) [
      | inl t ↦ absurd (none≢some (e ∙ cond-true _ _ _ t))
      | inr f ↦ f
    ]

-- ---- what holds of pairs holds of a front of them

tops_of_both : (ps qs : Pairs) → within_tops (ps ++ qs) ≡ within_tops ps && within_tops qs
tops_of_both [] qs = refl
tops_of_both (p ∷ ps) qs = ap (λ b. under_top p && b) (tops_of_both ps qs) ∙ and_assoc (under_top p) (within_tops ps) (within_tops qs)
  where
    and_assoc : (a b c : Bool) → a && (b && c) ≡ (a && b) && c
    and_assoc true b c = refl
    and_assoc false b c = refl

front_rises : (k low : ℕ) (ps : Pairs) → rising low ps ≡ true → rising low (take k ps) ≡ true
front_rises zero low ps r = refl
front_rises (suc k) low [] r = refl
front_rises (suc k) low ((j, v) ∷ ps) r =
    let a = and_parts (leb low j) _ r in
    let b = and_parts (ltb j 128) _ a.1 in
    and_from _ _ a.0 (and_from _ _ b.0 (front_rises k (suc j) ps b.1))

front_is_a_write_set : (k : ℕ) (ps : Pairs) → 0 < k → k ≤ length ps → is_write_set ps ≡ true → is_write_set (take k ps) ≡ true
front_is_a_write_set k ps some h w =
    let a = and_parts (ltb 0 (length ps)) _ w in
    let b = and_parts (leb (length ps) 8) _ a.1 in
    let few = leb-true _ _ b.0 in
    let n = length-take-le k ps h in
    and_from _ _ (lt-ltb 0 (length (take k ps)) (omega arith)) (and_from _ _ (le-leb (length (take k ps)) 8 (omega arith)) (front_rises k 0 ps b.1))

no_front_no_set : (k : ℕ) (ps : Pairs) → 0 < k → k ≤ length ps → is_write_set (take k ps) ≡ false → is_write_set ps ≡ false
no_front_no_set k ps some h f =
    elim (cases_Bool (is_write_set ps)) [
      | inl t ↦ absurd (both_ways _ f (front_is_a_write_set k ps some h t))
      | inr g ↦ g
    ]

-- ---- gathering

-- of all the pairs, some were taken, none of them above its top, and the others are left
pub record Gathered (all left ps : Pairs) : Type 0 where
  pub whole : ps ++ left ≡ all
  pub tops : within_tops ps ≡ true

module _ {all : Pairs} where
  module _ {left ps rest : Pairs} {p : ℕ × ℕ} (next : left ≡ p ∷ rest) (g : Gathered all left ps) where
    with_next : (ps ++ p ∷ []) ++ rest ≡ all
    with_next = append_assoc ps (p ∷ []) rest ∙ ap (λ l. ps ++ l) (sym next) ∙ g.whole

    pub gathered_more : {q : ℕ × ℕ} {qs : Pairs} → Some q ≡ topped p → Some qs ≡ built (ps ++ q ∷ []) → Gathered all rest qs
    gathered_more e b =
        let t = topped_some e in
        let is = built_some b ∙ ap (λ r. ps ++ r ∷ []) t.0 in
        record {
          whole = ap (λ l. l ++ rest) is ∙ with_next;
          tops = ap within_tops is ∙ tops_of_both ps (p ∷ []) ∙ and_from _ _ g.tops (and_from _ _ t.1 refl);
        }

    pub bad_value : None ≡ topped p → None ≡ accepted all
    bad_value e =
        let above = and_right (within_tops ps) _ (and_left _ (within_tops rest) (topped_none p e)) in
        let tops = ap within_tops (sym g.whole ∙ ap (λ l. ps ++ l) next) ∙ tops_of_both ps (p ∷ rest) ∙ above in
        sym (cond-false _ _ _ (and_right (is_write_set all) _ tops))

    pub bad_object : {q : ℕ × ℕ} → Some q ≡ topped p → None ≡ built (ps ++ q ∷ []) → None ≡ accepted all
    bad_object e b =
        let f = built_none (ps ++ p ∷ []) (b ∙ ap (λ r. built (ps ++ r ∷ [])) (topped_some e).0) in
        let n = length (ps ++ p ∷ []) in
        let front : take n all ≡ ps ++ p ∷ [] = ap (take n) (sym with_next) ∙ take_at (ps ++ p ∷ []) rest n refl in
        let some = length-append ps (p ∷ []) in
        let within = ap length with_next in
        let long = length-append (ps ++ p ∷ []) rest in
        sym (cond-false _ _ _ (and_left _ (within_tops all) (no_front_no_set n all (omega arith) (omega arith) (ap is_write_set front ∙ f))))
