-- What the versions of the objects say, and what a commit adds. Assumes nothing.
use Rattle.std.proofs.Common.{◌≡◌, ℕ, ◌+◌, ◌<◌, ◌≤◌, Bool, true, false, cond, ◌||◌, ltb, List, [], ◌∷◌, length, get_or, is_some, Some, None, Option, sym, refl, ap, ◌∙◌, ⊎_elim, arith}
use Rattle.std.proofs.lemmas.List.FromFn.{length-map-range_with_len, get_or-map-range_with_len}
use Rattle.std.proofs.lemmas.List.{ext_get_or}
use Rattle.std.proofs.lemmas.Bool.{cases_lt, le-leb, lt-leb, lt-ltb, le-ltb, cond-true, cond-false, or_right}
use Rattle.stores.specs.Model.{or_else, played}
use Rattle.stores.proofs.Steps.{length-played, get_or-played}
use Rattle.versions.specs.Histories.{Dated, current, newest, seen, board_at, written_since, first, started, newer, after_commit}

-- the head of the versions, where its commit is within the count, and where it is not
pub seen_head : (v : Dated) (older : List Dated) (c : ℕ) → v.commit ≤ c → seen (v ∷ older) c ≡ v.value
unfolding seen
seen_head v older c h = cond-true _ _ _ (le-leb v.commit c h)

pub seen_older : (v : Dated) (older : List Dated) (c : ℕ) → c < v.commit → seen (v ∷ older) c ≡ seen older c
unfolding seen
seen_older v older c h = cond-false _ _ _ (lt-leb v.commit c h)

pub seen_first : (x c : ℕ) → seen (first x) c ≡ x
seen_first x c = seen_head (record { commit = 0; value = x }) [] c (omega arith)

-- from the newest commit on, the newest value is seen
pub seen_current : (h : List Dated) (c : ℕ) → newest h ≤ c → seen h c ≡ current h
unfolding seen
seen_current [] c l = refl
seen_current (v ∷ older) c l = seen_head v older c l

-- ---- boards

pub length-board_at : (versions : ℕ → List Dated) (c : ℕ) → length (board_at versions c) ≡ 128
unfolding board_at
length-board_at versions c = length-map-range_with_len (λ j. seen (versions j) c) 0 128

pub get_or-board_at : (versions : ℕ → List Dated) (c j : ℕ) → j < 128 → get_or (board_at versions c) j 0 ≡ seen (versions j) c
unfolding board_at
get_or-board_at versions c j h = get_or-map-range_with_len (λ j. seen (versions j) c) 0 128 j j 0 h (omega arith)

-- the value of an object after a commit, and now
pub value_after : (versions : ℕ → List Dated) (c j : ℕ) → cond (ltb j 128) (Some (seen (versions j) c)) None ≡ cond (ltb j 128) (Some (get_or (board_at versions c) j 0)) None
value_after versions c j =
    ⊎_elim
    (λ l. ap (λ v. cond (ltb j 128) (Some v) None) (sym (get_or-board_at versions c j l)))
    (λ l. cond-false (ltb j 128) _ _ (le-ltb j 128 l) ∙ sym (cond-false (ltb j 128) _ _ (le-ltb j 128 l))) (cases_lt j 128)

pub value_now : (versions : ℕ → List Dated) (c j : ℕ) → newest (versions j) ≤ c → cond (ltb j 128) (Some (current (versions j))) None ≡ cond (ltb j 128) (Some (get_or (board_at versions c) j 0)) None
value_now versions c j l = ap (λ v. cond (ltb j 128) (Some v) None) (sym (seen_current (versions j) c l)) ∙ value_after versions c j

-- a board with the same 128 values
pub board_is : (versions : ℕ → List Dated) (c : ℕ) (board : List ℕ) → length board ≡ 128 → ((j : ℕ) → j < 128 → get_or board j 0 ≡ seen (versions j) c) → board_at versions c ≡ board
board_is versions c board l same =
    ext_get_or 0 (board_at versions c) board (length-board_at versions c ∙ sym l)
    (λ j h. let in' : j < 128 = omega (arith, length-board_at versions c) in get_or-board_at versions c j in' ∙ sym (same j in'))

pub board_started : (start : List ℕ) → length start ≡ 128 → board_at (started start) 0 ≡ start
board_started start l = board_is (started start) 0 start l (λ j h. sym (seen_first (get_or start j 0) 0))

-- ---- a commit

-- a commit after count c leaves what is seen at c
seen_before : (o : Option ℕ) (h : List Dated) (n c : ℕ) → c < n → seen (newer n o h) c ≡ seen h c
seen_before None h n c l = refl
seen_before (Some v) h n c l = seen_older (record { commit = n; value = v }) h c l

-- at its own count its writes are seen, and else what was seen before it
seen_after : (o : Option ℕ) (h : List Dated) (c : ℕ) → newest h ≤ c → seen (newer (c + 1) o h) (c + 1) ≡ or_else o (seen h c)
seen_after None h c l = seen_current h (c + 1) (omega arith) ∙ sym (seen_current h c l)
seen_after (Some v) h c l = seen_head (record { commit = c + 1; value = v }) h (c + 1) (omega arith)

or_false : (b : Bool) → (b || false) ≡ b
or_false true = refl
or_false false = refl

-- overtaken after the commit: overtaken before, or written by it
newest_after : (o : Option ℕ) (h : List Dated) (c n : ℕ) → c < n → ltb c (newest (newer n o h)) ≡ (ltb c (newest h) || is_some o)
newest_after None h c n l = sym (or_false (ltb c (newest h)))
newest_after (Some v) h c n l = lt-ltb c n l ∙ sym (or_right (ltb c (newest h)) true refl)

module _ (versions : ℕ → List Dated) (own : ℕ → Option ℕ) where
  pub board_before : (n c : ℕ) → c < n → board_at (after_commit versions n own) c ≡ board_at versions c
  board_before n c l =
      board_is (after_commit versions n own) c (board_at versions c) (length-board_at versions c) (λ j h. get_or-board_at versions c j h ∙ sym (seen_before (own j) (versions j) n c l))

  pub board_after : (c : ℕ) → ((j : ℕ) → newest (versions j) ≤ c) → board_at (after_commit versions (c + 1) own) (c + 1) ≡ played own (board_at versions c)
  board_after c past =
      board_is (after_commit versions (c + 1) own) (c + 1) (played own (board_at versions c)) (length-played own (board_at versions c) ∙ length-board_at versions c)
      (λ j h. get_or-played own (board_at versions c) j (omega (arith, length-board_at versions c)) ∙ ap (or_else (own j)) (get_or-board_at versions c j h) ∙ sym (seen_after (own j) (versions j) c (past j)))

  pub since_after : (n c : ℕ) → c < n → written_since (after_commit versions n own) c ≡ (λ j. written_since versions c j || is_some (own j))
  since_after n c l = λ i j. newest_after (own j) (versions j) c n l i
