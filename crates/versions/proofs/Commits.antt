-- The versions that the pairs of a commit leave, one pair after another. Assumes nothing.
use Rattle.std.proofs.Common.{◌≡◌, ℕ, ◌+◌, ◌<◌, ◌≤◌, Bool, true, false, cond, eqb, List, ◌∷◌, length, get_or, drop, Some, None, Option, sym, refl, ap, ◌∙◌, subst, arith}
use Rattle.std.proofs.lemmas.List.{at_drop_more, at_drop_all}
use Rattle.std.proofs.lemmas.Bool.{eqb-true}
use Rattle.tickets.specs.declared.pair.Pair.{Pair}
use Rattle.versions.specs.Pairs.{own_in, each_once, no_pair}
use Rattle.versions.specs.Histories.{Dated, newest, newer, with_version, after_commit}
use Rattle.versions.proofs.Pairs.{headed_at}

one_more : (b : Bool) (c v : ℕ) (o : Option ℕ) (h : List Dated) → (b ≡ true → o ≡ None) → newer c o (cond b (record { commit = c; value = v } ∷ h) h) ≡ newer c (cond b (Some v) o) h
one_more true c v o h n = ap (λ o. newer c o (record { commit = c; value = v } ∷ h)) (n refl)
one_more false c v o h n = refl

module _ (versions : ℕ → List Dated) (c : ℕ) (ps : List Pair) (once : each_once ps ≡ true) (i : ℕ) where
  pub commit_more : i < length ps
      → after_commit (with_version versions (get_or ps i no_pair).object c (get_or ps i no_pair).value) c (own_in (drop (i + 1) ps)) ≡ after_commit versions c (own_in (drop i ps))
  unfolding own_in
  commit_more h =
      let p = get_or ps i no_pair in
      let rest = drop (i + 1) ps in
      let d = headed_at ps once i h in
      (λ t k. one_more (eqb k p.object) c p.value (own_in rest k) (versions k) (λ e. ap (own_in rest) (eqb-true k p.object e) ∙ d.alone) t)
      ∙ ap (λ l. after_commit versions c (own_in l)) (sym (at_drop_more (λ l. l) ps i no_pair h))

  pub commit_end : length ps ≤ i → after_commit versions c (own_in (drop i ps)) ≡ versions
  unfolding own_in
  commit_end h = ap (λ l. after_commit versions c (own_in l)) (at_drop_all (λ l. l) ps i h)

-- no version is from a commit to come
newest_past : (m n : ℕ) (o : Option ℕ) (h : List Dated) → n ≤ m → newest h ≤ m → newest (newer n o h) ≤ m
newest_past m n None h l k = k
newest_past m n (Some v) h l k = l

pub still_past : (versions new : ℕ → List Dated) (c n : ℕ) (own : ℕ → Option ℕ) → new ≡ after_commit versions n own → n ≤ c + 1 → ((j : ℕ) → newest (versions j) ≤ c) → (j : ℕ) → newest (new j) ≤ c + 1
still_past versions new c n own e l past j = subst (λ v. newest (v j) ≤ c + 1) (sym e) (newest_past (c + 1) n (own j) (versions j) l (omega (arith, past j)))
