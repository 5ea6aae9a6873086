-- An item of a record, as it is read number by number.
use Rattle.std.proofs.Common.{◌≡◌, ℕ, ◌+◌, ◌-◌, ◌*◌, ◌/◌, ◌<◌, ◌≤◌, cond, ◌&&◌, eqb, ltb, leb, List, length, map, get_or, take, drop, Some, None, Option, sym, ap, ◌∙◌, inl, inr, arith}
use Rattle.std.proofs.lemmas.Bool.{and_right, and_from, eq-eqb, le-leb, lt-ltb, cond-true, cond-false, cases_Bool}
use Rattle.std.proofs.lemmas.List.{get_or-drop, drop-drop, length-drop, length-take-le, take_rest}
use Rattle.std.specs.Simd.{first_chunks}
use Rattle.tickets.specs.WriteSets.{Pairs}
use Rattle.record_format.specs.Items.{Item, fine_pairs, accepted}
use Rattle.record_format.specs.Written.{first_body}
use Rattle.record_format.specs.Reading.{two_of, pair_in, pairs_in, Entered, item_at}
use Rattle.record_format.proofs.Places.{first_at, pairs_by_chunks}

-- what is told of item n, whose body is to lie at a place with so much room, by the numbers that are read
abbrev told : ℕ → ℕ → ℕ → ℕ → ℕ → ℕ → ℕ → Pairs → Option Item
told n at room home size offset s ps =
    cond (eqb offset at && (leb size room && (leb home 7 && (ltb s n && fine_pairs ps)))) (Some (record { home = home; s = s; pairs = ps })) None

module _ (bs : List ℕ) (n at : ℕ) {home pairs size offset : ℕ} (e : Entered bs n home pairs size offset) where
  abbrev ps : Pairs
  ps = pairs_in pairs (drop (at + 2) bs)

  item_told : item_at bs n at ≡ told n at (length bs - at) home size offset (two_of (drop at bs)) ps
  item_told =
      let from = first_body (n - 1) in
      let home_is : get_or (drop from bs) 0 0 ≡ home = first_at bs from ∙ sym e.home_is in
      let pairs_is : get_or (drop from bs) 1 0 ≡ pairs = get_or-drop from bs 1 0 ∙ sym e.pairs_is in
      let size_is : 2 + 5 * get_or (drop from bs) 1 0 ≡ size = ap (λ k. 2 + 5 * k) pairs_is ∙ sym e.size_is in
      let offset_is : two_of (drop 2 (drop from bs)) ≡ offset = ap two_of (drop-drop 2 from bs) ∙ sym e.offset_is in
      let room_is = length-drop at bs in
      let rest_is = drop-drop 2 at bs in
      (λ i. told n at (room_is i) (home_is i) (size_is i) (offset_is i) (two_of (drop at bs)) (pairs_in (pairs_is i) (rest_is i)))

  -- the pairs as arrays of five bytes, of the body behind s
  pub pairs_of_body : (body : List ℕ) (chunks : List (List ℕ)) → size ≤ length bs - at → body ≡ take (size - 2) (drop 2 (take (length bs - at) (drop at bs))) → chunks ≡ first_chunks 5 (length body / 5) body → map pair_in chunks ≡ ps
  pairs_of_body body chunks room is cut =
      let behind = ap (drop 2) (take_rest bs at) ∙ drop-drop 2 at bs in
      let size_is = e.size_is in
      let few : size - 2 ≤ length (drop 2 (take (length bs - at) (drop at bs))) = omega (arith, ap length behind, length-drop (at + 2) bs) in
      let long : length body ≡ 5 * pairs = ap length is ∙ length-take-le (size - 2) (drop 2 (take (length bs - at) (drop at bs))) few ∙ omega arith in
      let count : length body / 5 ≡ pairs = omega arith in
      let whole : body ≡ take (size - 2) (drop (at + 2) bs) = is ∙ ap (take (size - 2)) behind in
      ap (map pair_in) (cut ∙ ap (first_chunks 5 (length body / 5)) whole) ∙ pairs_by_chunks pairs (size - 2) (length body / 5) (drop (at + 2) bs) (omega arith) count

  pub no_item_by_pairs : None ≡ accepted ps → None ≡ item_at bs n at
  no_item_by_pairs a =
      elim (cases_Bool (fine_pairs ps)) [
        | inl t ↦ absurd (let f = a ∙ cond-true _ _ _ t in let z : ◌≡◌ {A = ℕ} 0 1 = cc in omega arith)
        | inr f ↦
            sym (item_told ∙ cond-false _ _ _ (and_right (eqb offset at) _ (and_right (leb size (length bs - at)) _ (and_right (leb home 7) _ (and_right (ltb (two_of (drop at bs)) n) _ f)))))
      ]

  pub item_found : (s : ℕ) (qs : Pairs) → s ≡ two_of (drop at bs) → offset ≡ at → size ≤ length bs - at → home ≤ 7 → s < n → Some qs ≡ accepted ps → Some (record { home = home; s = s; pairs = qs }) ≡ item_at bs n at
  item_found s qs t same room h older a =
      let l : two_of (drop at bs) < n = omega arith in
      elim (cases_Bool (fine_pairs ps)) [
        | inl f ↦
            let q : qs ≡ ps = let g = a ∙ cond-true _ _ _ f in cc in
            sym (item_told ∙ cond-true _ _ _ (and_from _ _ (eq-eqb _ _ same) (and_from _ _ (le-leb _ _ room) (and_from _ _ (le-leb _ _ h) (and_from _ _ (lt-ltb _ _ l) f))))
            ∙ (λ i. Some (record { home = home; s = sym t i; pairs = sym q i })))
        | inr f ↦ absurd (let g = a ∙ cond-false _ _ _ f in let z : ◌≡◌ {A = ℕ} 0 1 = cc in omega arith)
      ]
