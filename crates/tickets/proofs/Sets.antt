-- The pairs of a write set: what the invariant of its type says of them.
use Rattle.std.proofs.Common.{◌≡◌, ℕ, suc, ◌+◌, ◌-◌, ◌<◌, ◌≤◌, true, ltb, leb, List, [], ◌∷◌, ◌++◌, map, length, get_or, take, set, ap, ◌∙◌, arith}
use Rattle.std.specs.List.{All}
use Rattle.std.proofs.lemmas.Bool.{and_parts, ltb-true}
use Rattle.std.proofs.lemmas.List.{length-take-le, length-map, get_or-map, take_more_set, map_push}
use Rattle.tickets.specs.WriteSets.{rising}
use Rattle.tickets.specs.Meaning.{pair_of, pairs, pairs_of}
use Rattle.tickets.specs.declared.pair.Pair.{Pair}
use Rattle.tickets.specs.declared.write_set.WriteSet.{WriteSet}
use Rattle.tickets.proofs.Rising.{after, after_array, rising_below}

module _ (w : WriteSet) where
  pub length_pairs : length (pairs w) ≡ w.len
  length_pairs = length-map (take w.len w.pairs) pair_of ∙ length-take-le w.len w.pairs (omega arith)

  pub some_pairs : 1 ≤ w.len
  some_pairs = let p = and_parts (ltb 0 (length (pairs w))) _ w.stands in omega (arith, length_pairs, ltb-true 0 (length (pairs w)) p.0)

  pub pairs_rise : rising 0 (pairs w) ≡ true
  pairs_rise = let p = and_parts (ltb 0 (length (pairs w))) _ w.stands in (and_parts (leb (length (pairs w)) 8) _ p.1).1

  pub objects_below : All (λ (p : Pair). p.object < 128) (take w.len w.pairs)
  objects_below k d h =
      let xs = take w.len w.pairs in
      let e = get_or-map pair_of xs k d (0, 0) h in
      omega (arith, rising_below 0 (pairs w) k pairs_rise (omega (arith, length-map xs pair_of)), ap (λ (p : ℕ × ℕ). p.0) e)

  pub after_last : (d : Pair) → after 0 (pairs w) ≡ suc (get_or w.pairs (w.len - 1) d).object
  after_last d =
      let h = some_pairs in
      let e : w.len ≡ suc (w.len - 1) = omega arith in
      ap (λ n. after 0 (pairs_of n w.pairs)) e ∙ after_array (w.len - 1) 0 w.pairs d (omega arith)

-- one pair more in the array is one pair more behind the others
pub push_pair : (n : ℕ) (xs : List Pair) (p : Pair) → n < length xs → pairs_of (n + 1) (set xs n p) ≡ pairs_of n xs ++ pair_of p ∷ []
push_pair n xs p h = ap (map pair_of) (take_more_set xs n p h) ∙ map_push pair_of (take n xs) p
