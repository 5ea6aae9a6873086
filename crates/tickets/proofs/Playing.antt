-- What playing write sets does to a board, object by object.
use Rattle.std.proofs.Common.{◌≡◌, ℕ, suc, ◌+◌, ◌%◌, ◌^◌, ◌<◌, Bool, true, false, cond, eqb, ltb, leb, ◌≢◌, List, [], ◌∷◌, map, length, get_or, drop, set, is_some, Some, None, Option, sym, refl, ap, ◌∙◌, inl, inr, arith, lit<}
use Rattle.std.specs.List.{AllByRecursion}
use Rattle.std.proofs.ByRecursion.{All-get_or}
use Rattle.std.proofs.lemmas.Bool.{and_parts, leb-true, cases_eq, eq-eqb, ne_eqb, cond-true, cond-false, or_cases, or_left, or_right, both_ways}
use Rattle.std.proofs.lemmas.List.{set_comm, length-set, get_or-set_same, get_or-set_other, get_or-map, length-map, drop_more, ext_get_or}
use Rattle.tickets.specs.Boards.{Board, value, tops}
use Rattle.tickets.specs.WriteSets.{Pairs, rising, lookup, stands, shares, play, over}
use Rattle.tickets.specs.Laws.{Common, PlayingLaws, SharingLaws, TopsFit}
use Rattle.tickets.specs.Pairs.{pair_of}
use Rattle.tickets.specs.declared.pair.Pair.{Pair}
use Rattle.tickets.proofs.Rising.{rising_next}

-- the first pair may as well be played first
pub play_first : (low j v : ℕ) (ps : Pairs) (b : Board) → j < low → rising low ps ≡ true → play ((j, v) ∷ ps) b ≡ play ps (set b j v)
play_first low j v [] b h r = refl
play_first low j v ((i, u) ∷ ps) b h r =
    let a = and_parts (leb low i) _ r in
    let c = and_parts (ltb i 128) _ a.1 in
    let l = leb-true low i a.0 in
    let ne : i ≢ j = omega arith in
    set_comm (play ps b) i j u v ne ∙ ap (λ (w : Board). set w i u) (play_first (suc i) j v ps b (omega arith) c.1)

pub length-play : (ps : Pairs) (b : Board) → length (play ps b) ≡ length b
length-play [] b = refl
length-play ((i, v) ∷ ps) b = length-set (play ps b) i v ∙ length-play ps b

pub value_play : (ps : Pairs) (b : Board) (j : ℕ) → j < length b → value (play ps b) j ≡ over (lookup ps j) (value b j)
value_play [] b j h = refl
value_play ((i, v) ∷ ps) b j h =
    elim (cases_eq j i) [
      | inl e ↦
          let l : i < length (play ps b) = omega (arith, length-play ps b) in
          ap (value (set (play ps b) i v)) e ∙ get_or-set_same (play ps b) i v 0 l ∙ sym (ap (λ (o : Option ℕ). over o (value b j)) (cond-true _ _ _ (eq-eqb j i e)))
      | inr n ↦
          get_or-set_other (play ps b) i j v 0 n ∙ value_play ps b j h ∙ sym (ap (λ (o : Option ℕ). over o (value b j)) (cond-false _ _ _ (ne_eqb j i n)))
    ]

over_some : (o : Option ℕ) (x y : ℕ) → is_some o ≡ true → over o x ≡ over o y
over_some (Some v) x y h = refl
over_some None x y h = let z : ◌≡◌ {A = ℕ} 0 1 = cc in absurd (omega arith)

pub later_stays : (ps qs : Pairs) (b : Board) (j : ℕ) → j < length b → stands qs j ≡ true → value (play qs (play ps b)) j ≡ value (play qs b) j
later_stays ps qs b j h s =
    value_play qs (play ps b) j (omega (arith, length-play ps b)) ∙ over_some (lookup qs j) (value (play ps b) j) (value b j) s ∙ sym (value_play qs b j h)

-- ---- sharing

pub shares_from : (ps qs : Pairs) (j : ℕ) → stands ps j ≡ true → stands qs j ≡ true → shares ps qs ≡ true
shares_from [] qs j p q = let z : ◌≡◌ {A = ℕ} 0 1 = cc in absurd (omega arith)
shares_from ((i, v) ∷ ps) qs j p q =
    elim (cases_eq j i) [
      | inl e ↦ or_left _ _ (ap (stands qs) (sym e) ∙ q)
      | inr n ↦ or_right _ _ (shares_from ps qs j (sym (ap is_some (cond-false _ _ _ (ne_eqb j i n))) ∙ p) q)
    ]

pub shares_common : (ps qs : Pairs) → shares ps qs ≡ true → Common ps qs
shares_common [] qs s = let z : ◌≡◌ {A = ℕ} 0 1 = cc in absurd (omega arith)
shares_common ((i, v) ∷ ps) qs s =
    elim (or_cases (stands qs i) (shares ps qs) s) [
      | inl q ↦ (i, (ap is_some (cond-true _ _ _ (eq-eqb i i refl)), q))
      | inr r ↦
          let c = shares_common ps qs r in
          (c.0, (later i v ps c.0 c.1.0, c.1.1))
    ]
  where
    later : (i v : ℕ) (ps : Pairs) (j : ℕ) → stands ps j ≡ true → stands ((i, v) ∷ ps) j ≡ true
    later i v ps j p = elim (eqb j i) as (λ b. is_some (cond b (Some v) (lookup ps j)) ≡ true) [ true ↦ refl | false ↦ p ]

swapped : (a b : Bool) → (a ≡ true → b ≡ true) → (b ≡ true → a ≡ true) → a ≡ b
swapped true true f g = refl
swapped true false f g = sym (f refl)
swapped false true f g = g refl
swapped false false f g = refl

pub shares_either_way : (ps qs : Pairs) → shares ps qs ≡ shares qs ps
shares_either_way ps qs =
    swapped (shares ps qs) (shares qs ps)
    (λ s. let c = shares_common ps qs s in shares_from qs ps c.0 c.1.1 c.1.0)
    (λ s. let c = shares_common qs ps s in shares_from ps qs c.0 c.1.1 c.1.0)

-- ---- write sets that share nothing

over_none : (o : Option ℕ) (x : ℕ) → is_some o ≡ false → over o x ≡ x
over_none None x h = refl
over_none (Some v) x h = let z : ◌≡◌ {A = ℕ} 0 1 = cc in absurd (omega arith)

apart_at : (o p : Option ℕ) (x : ℕ) → (is_some o ≡ true → is_some p ≡ true → ⊥) → over p (over o x) ≡ over o (over p x)
apart_at None p x n = refl
apart_at (Some v) None x n = refl
apart_at (Some v) (Some u) x n = absurd (n refl refl)

pub disjoint_sets_change_places : (ps qs : Pairs) (b : Board) → shares ps qs ≡ false → play qs (play ps b) ≡ play ps (play qs b)
disjoint_sets_change_places ps qs b s =
    let lp = length-play ps b in
    let lq = length-play qs b in
    let m = length-play qs (play ps b) in
    let n = length-play ps (play qs b) in
    ext_get_or 0 _ _ (omega arith)
    (λ j h.
    let k : j < length b = omega arith in
    value_play qs (play ps b) j (omega arith) ∙ ap (over (lookup qs j)) (value_play ps b j k)
    ∙ apart_at (lookup ps j) (lookup qs j) (value b j) (λ p q. both_ways _ s (shares_from ps qs j p q))
    ∙ sym (value_play ps (play qs b) j (omega arith) ∙ ap (over (lookup ps j)) (value_play qs b j k)))

-- ---- the laws

pub playing_laws : PlayingLaws
playing_laws = record { at_each_object = value_play; same_size = length-play; later_stays = later_stays; may_change_places = disjoint_sets_change_places }

pub sharing_laws : SharingLaws
sharing_laws =
    record { is_a_common_object = λ ps qs. (shares_common ps qs, λ c. shares_from ps qs c.0 c.1.0 c.1.1); either_way = shares_either_way }

-- a test over the whole table
every_top_fits : AllByRecursion (λ t. t < 2 ^ 32) tops
every_top_fits = (lit< tt, (lit< tt, (lit< tt, (lit< tt, (lit< tt, (lit< tt, (lit< tt, (lit< tt, tt))))))))

pub tops_fit : TopsFit
tops_fit j = All-get_or (λ t. t < 2 ^ 32) tops (j % 8) 0 (omega arith) every_top_fits

-- ---- playing the pairs of an array one by one

-- playing the next pair leaves what the pairs from it on make
pub play_next : (xs : List Pair) (i : ℕ) (d : Pair) (b : Board) → rising 0 (map pair_of xs) ≡ true → i < length xs → play (drop i (map pair_of xs)) b ≡ play (drop (i + 1) (map pair_of xs)) (set b (get_or xs i d).object (get_or xs i d).value)
play_next xs i d b r h =
    let ps = map pair_of xs in
    let p = get_or xs i d in
    let e : drop i ps ≡ pair_of p ∷ drop (i + 1) ps = drop_more ps i (pair_of d) (omega (arith, length-map xs pair_of)) ∙ ap (λ (q : ℕ × ℕ). q ∷ drop (i + 1) ps) (get_or-map pair_of xs i d (pair_of d) h) in
    ap (λ (qs : Pairs). play qs b) e ∙ play_first (suc p.object) p.object p.value (drop (i + 1) ps) b (omega arith) (rising_next i 0 p.object p.value ps _ r e)
