-- Pairs whose objects rise: as a test, in an array, and with one more behind the others.
use Rattle.std.proofs.Common.{◌≡◌, ℕ, zero, suc, ◌<◌, ◌≤◌, Bool, true, false, ◌&&◌, ltb, leb, List, [], ◌∷◌, ◌++◌, length, get_or, drop, Some, None, sym, refl, ap, ◌∙◌, arith}
use Rattle.std.proofs.lemmas.Bool.{ltb-true, and_parts, and_from, and_left, and_right, le-leb, lt-leb, lt-ltb, le-ltb, cond-true, cond-false}
use Rattle.std.proofs.lemmas.List.{length_push}
use Rattle.tickets.specs.WriteSets.{Pairs, rising, is_write_set}
use Rattle.tickets.specs.Meaning.{pairs_of, built}
use Rattle.tickets.specs.declared.pair.Pair.{Pair}

-- the lowest object that may follow
abbrev pub after : ℕ → Pairs → ℕ
after low [] = low
after low ((j, v) ∷ ps) = after (suc j) ps

-- the objects of rising pairs lie below 128
pub rising_below : (low : ℕ) (ps : Pairs) (i : ℕ) → rising low ps ≡ true → i < length ps → (get_or ps i (0, 0)).0 < 128
rising_below low [] i r h = absurd (omega arith)
rising_below low ((j, v) ∷ ps) zero r h = ltb-true j 128 (and_parts (ltb j 128) _ (and_parts (leb low j) _ r).1).0
rising_below low ((j, v) ∷ ps) (suc i) r h = rising_below (suc j) ps i (and_parts (ltb j 128) _ (and_parts (leb low j) _ r).1).1 (omega arith)

-- behind the first n + 1 pairs of an array comes what is above the last of them
pub after_array : (n low : ℕ) (xs : List Pair) (d : Pair) → n < length xs → after low (pairs_of (suc n) xs) ≡ suc (get_or xs n d).object
after_array n low [] d h = absurd (omega arith)
after_array zero low (x ∷ xs) d h = refl
after_array (suc n) low (x ∷ xs) d h = after_array n (suc x.object) xs d (omega arith)

one_last : (a b : Bool) → a && (b && true) ≡ a && b
one_last true true = refl
one_last true false = refl
one_last false b = refl

under_both : (a b c d e : Bool) → a && (b && c) ≡ true → (c ≡ true → d ≡ e) → a && (b && d) ≡ e
under_both true true c d e h f = f h
under_both true false c d e h f = let z : ◌≡◌ {A = ℕ} 0 1 = cc in absurd (omega arith)
under_both false b c d e h f = let z : ◌≡◌ {A = ℕ} 0 1 = cc in absurd (omega arith)

pub rising_push : (low : ℕ) (ps : Pairs) (j v : ℕ) → rising low ps ≡ true → rising low (ps ++ (j, v) ∷ []) ≡ leb (after low ps) j && ltb j 128
rising_push low [] j v r = one_last (leb low j) (ltb j 128)
rising_push low ((i, u) ∷ ps) j v r = under_both (leb low i) (ltb i 128) (rising (suc i) ps) _ _ r (rising_push (suc i) ps j v)

-- ---- one more pair behind the others

pub push_stands : (ps : Pairs) (j v : ℕ) → rising 0 ps ≡ true → length ps < 8 → after 0 ps ≤ j → j < 128 → is_write_set (ps ++ (j, v) ∷ []) ≡ true
push_stands ps j v r few above within =
    let n = length_push ps (j, v) in
    let m = length (ps ++ (j, v) ∷ []) in
    and_from _ _ (lt-ltb 0 m (omega arith)) (and_from _ _ (le-leb m 8 (omega arith)) (rising_push 0 ps j v r ∙ and_from _ _ (le-leb _ _ above) (lt-ltb _ _ within)))

pub push_built : (ps : Pairs) (j v : ℕ) → rising 0 ps ≡ true → length ps < 8 → after 0 ps ≤ j → j < 128 → built (ps ++ (j, v) ∷ []) ≡ Some (ps ++ (j, v) ∷ [])
push_built ps j v r few above within = cond-true _ _ _ (push_stands ps j v r few above within)

-- no write set: not rising
not_rising : (ps : Pairs) (j v : ℕ) → rising 0 (ps ++ (j, v) ∷ []) ≡ false → is_write_set (ps ++ (j, v) ∷ []) ≡ false
not_rising ps j v f = and_right (ltb 0 (length (ps ++ (j, v) ∷ []))) _ (and_right (leb (length (ps ++ (j, v) ∷ [])) 8) _ f)

pub ninth_fails : (ps : Pairs) (j v : ℕ) → 8 ≤ length ps → is_write_set (ps ++ (j, v) ∷ []) ≡ false
ninth_fails ps j v many =
    let n = length_push ps (j, v) in
    and_right (ltb 0 (length (ps ++ (j, v) ∷ []))) _ (and_left (leb (length (ps ++ (j, v) ∷ [])) 8) (rising 0 (ps ++ (j, v) ∷ [])) (lt-leb (length (ps ++ (j, v) ∷ [])) 8 (omega arith)))

pub outside_fails : (ps : Pairs) (j v : ℕ) → rising 0 ps ≡ true → 128 ≤ j → is_write_set (ps ++ (j, v) ∷ []) ≡ false
outside_fails ps j v r out = not_rising ps j v (rising_push 0 ps j v r ∙ and_right (leb (after 0 ps) j) _ (le-ltb j 128 out))

pub not_above_fails : (ps : Pairs) (j v : ℕ) → rising 0 ps ≡ true → j < after 0 ps → is_write_set (ps ++ (j, v) ∷ []) ≡ false
not_above_fails ps j v r low = not_rising ps j v (rising_push 0 ps j v r ∙ and_left (leb (after 0 ps) j) (ltb j 128) (lt-leb _ _ low))

pub push_ninth : (ps : Pairs) (j v : ℕ) → 8 ≤ length ps → built (ps ++ (j, v) ∷ []) ≡ None
push_ninth ps j v many = cond-false _ _ _ (ninth_fails ps j v many)

pub push_outside : (ps : Pairs) (j v : ℕ) → rising 0 ps ≡ true → 128 ≤ j → built (ps ++ (j, v) ∷ []) ≡ None
push_outside ps j v r out = cond-false _ _ _ (outside_fails ps j v r out)

pub push_not_above : (ps : Pairs) (j v : ℕ) → rising 0 ps ≡ true → j < after 0 ps → built (ps ++ (j, v) ∷ []) ≡ None
push_not_above ps j v r low = cond-false _ _ _ (not_above_fails ps j v r low)

-- ---- what is left of rising pairs rises

pub rising_rest : (i low : ℕ) (ps : Pairs) → rising low ps ≡ true → (k : ℕ) × (rising k (drop i ps) ≡ true)
rising_rest i low [] r = (low, rising_none i low)
  where
    rising_none : (i low : ℕ) → rising low (drop i []) ≡ true
    rising_none zero low = refl
    rising_none (suc i) low = refl
rising_rest zero low ((j, v) ∷ ps) r = (low, r)
rising_rest (suc i) low ((j, v) ∷ ps) r = rising_rest i (suc j) ps (and_parts (ltb j 128) _ (and_parts (leb low j) _ r).1).1

pub rising_next : (i low j v : ℕ) (ps qs : Pairs) → rising low ps ≡ true → drop i ps ≡ (j, v) ∷ qs → rising (suc j) qs ≡ true
rising_next i low j v ps qs r e =
    let k = rising_rest i low ps r in
    let h : rising k.0 ((j, v) ∷ qs) ≡ true = ap (rising k.0) (sym e) ∙ k.1 in
    (and_parts (ltb j 128) _ (and_parts (leb k.0 j) _ h).1).1
