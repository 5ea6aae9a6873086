-- Lines, one after the other.
use Rattle.std.proofs.Common.{◌≡◌, ℕ, zero, suc, ◌+◌, ◌-◌, ◌*◌, ◌<◌, ◌≤◌, true, false, cond, not, ◌||◌, ◌==◌, List, [], ◌∷◌, ◌++◌, map, length, get_or, take, drop, sym, refl, ap, ◌∙◌, arith}
use Rattle.std.specs.List.{flat_map, list_any}
use Rattle.std.specs.Simd.{first_chunks}
use Rattle.std.proofs.lemmas.Bool.{cond-true, cond-false}
use Rattle.std.proofs.lemmas.List.{append_assoc, append-nil, at_drop_more, drop_more, drop-drop, get_or-take, get_or-drop, get_or-map, length-map}
use Rattle.tickets.specs.Boards.{Board}
use Rattle.tickets.specs.Pairs.{pair_of}
use Rattle.tickets.specs.declared.pair.Pair.{Pair}
use Rattle.record_format.specs.Items.{Item}
use Rattle.listing.specs.Listing.{pair_text, item_text, items_text, field, used_from, used, ticket_at, ticket_of, ticket_text, tickets_text}

-- one text behind another
pub added_twice : (t0 xs ys : List ℕ) {t1 t2 : List ℕ} → t1 ≡ t0 ++ xs → t2 ≡ t1 ++ ys → t2 ≡ t0 ++ (xs ++ ys)
added_twice t0 xs ys p q = q ∙ ap (λ l. l ++ ys) p ∙ append_assoc t0 xs ys

-- what is written and what is left stay the whole
pub one_more : (text line rest : List ℕ) {left after whole : List ℕ} → left ≡ line ++ rest → after ≡ text ++ line → text ++ left ≡ whole → after ++ rest ≡ whole
one_more text line rest l a e = ap (λ t. t ++ rest) a ∙ append_assoc text line rest ∙ ap (λ t. text ++ t) (sym l) ∙ e

pub nothing_left : (text : List ℕ) {left whole : List ℕ} → left ≡ [] → text ++ left ≡ whole → text ≡ whole
nothing_left text l e = sym (ap (λ t. text ++ t) l ∙ append-nil text) ∙ e

-- ---- the pairs of a write set

pub next_pair : (ps : List Pair) (i : ℕ) (d : Pair) → i < length ps → flat_map pair_text (drop i (map pair_of ps)) ≡ pair_text (pair_of (get_or ps i d)) ++ flat_map pair_text (drop (i + 1) (map pair_of ps))
next_pair ps i d h =
    let rest = drop (i + 1) (map pair_of ps) in
    at_drop_more (flat_map pair_text) (map pair_of ps) i (pair_of d) (omega (arith, length-map ps pair_of))
    ∙ ap (λ (p : ℕ × ℕ). pair_text p ++ flat_map pair_text rest) (get_or-map pair_of ps i d (pair_of d) h)

-- ---- the fields of a ticket, as a part of its board

-- the ticket of a number is eight values of the board
chunk_at : (k t : ℕ) (b : Board) (d : List ℕ) → t < k → get_or (first_chunks 8 k b) t d ≡ take 8 (drop (8 * t) b)
chunk_at zero t b d h = absurd (omega arith)
chunk_at (suc k) zero b d h = refl
chunk_at (suc k) (suc t) b d h =
    let e : 8 + 8 * t ≡ 8 * suc t = omega arith in
    chunk_at k t (drop 8 b) d (omega arith) ∙ ap (take 8) (drop-drop (8 * t) 8 b ∙ ap (λ n. drop n b) e)

-- some of the n values from one on is other than 0
any_from : (n k t : ℕ) (b : Board) → 8 * t + k + n ≤ length b → used_from b t k n ≡ list_any (λ v. not (v == 0)) (take n (drop (8 * t + k) b))
unfolding used_from
any_from zero k t b h = refl
any_from (suc n) k t b h =
    let p = 8 * t + k in
    let e : 8 * t + (k + 1) ≡ p + 1 = omega arith in
    let d = drop_more b p 0 (omega arith) in
    ap (λ r. not (field b t k == 0) || r) (any_from n (k + 1) t b (omega arith) ∙ ap (λ m. list_any (λ v. not (v == 0)) (take n (drop m b))) e)
    ∙ ap (λ (l : List ℕ). list_any (λ v. not (v == 0)) (take (suc n) l)) (sym d)

module _ (b : Board) (t : ℕ) (d : List ℕ) (inside : t < 16) (whole : length b ≡ 128) where
  pub used_any : used b t ≡ list_any (λ v. not (v == 0)) (get_or (first_chunks 8 16 b) t d)
  used_any =
      let z : 8 * t + 0 ≡ 8 * t = omega arith in
      any_from 8 0 t b (omega arith) ∙ ap (λ m. list_any (λ v. not (v == 0)) (take 8 (drop m b))) z
      ∙ ap (list_any (λ v. not (v == 0))) (sym (chunk_at 16 t b d inside))

  field_at : (k : ℕ) → k < 8 → get_or (get_or (first_chunks 8 16 b) t d) k 0 ≡ field b t k
  field_at k h = ap (λ (l : List ℕ). get_or l k 0) (chunk_at 16 t b d inside) ∙ get_or-take 8 (drop (8 * t) b) k 0 h ∙ get_or-drop (8 * t) b k 0

  pub ticket_is : ticket_of (get_or (first_chunks 8 16 b) t d) ≡ ticket_at b t
  ticket_is =
      let f = field_at in
      λ i. record {
        stage = f 0 (omega arith) i;
        pages = f 1 (omega arith) i;
        sheets = f 2 (omega arith) i;
        plates = f 3 (omega arith) i;
        fold = f 4 (omega arith) i;
        press = f 5 (omega arith) i;
        paper = f 6 (omega arith) i;
        waste = f 7 (omega arith) i;
      }

-- ---- the lines of the tickets

tickets_more : (b : Board) (t : ℕ) → t < 16 → tickets_text b t (16 - t) ≡ cond (used b t) (ticket_text t (ticket_at b t)) [] ++ tickets_text b (t + 1) (16 - (t + 1))
unfolding tickets_text
tickets_more b t h = let e : 16 - t ≡ suc (16 - (t + 1)) = omega arith in ap (tickets_text b t) e

pub ticket_shown : (b : Board) (t : ℕ) → t < 16 → used b t ≡ true → tickets_text b t (16 - t) ≡ ticket_text t (ticket_at b t) ++ tickets_text b (t + 1) (16 - (t + 1))
ticket_shown b t h u = tickets_more b t h ∙ ap (λ l. l ++ tickets_text b (t + 1) (16 - (t + 1))) (cond-true (used b t) (ticket_text t (ticket_at b t)) [] u)

pub ticket_passed : (b : Board) (t : ℕ) → t < 16 → used b t ≡ false → tickets_text b t (16 - t) ≡ tickets_text b (t + 1) (16 - (t + 1))
ticket_passed b t h u = tickets_more b t h ∙ ap (λ l. l ++ tickets_text b (t + 1) (16 - (t + 1))) (cond-false (used b t) (ticket_text t (ticket_at b t)) [] u)

pub no_ticket : (b : Board) (t : ℕ) → 16 ≤ t → tickets_text b t (16 - t) ≡ []
unfolding tickets_text
no_ticket b t h = let z : 16 - t ≡ 0 = omega arith in ap (tickets_text b t) z

-- ---- the lines of the write sets

pub next_line : (n : ℕ) {its rest : List Item} {it : Item} → its ≡ it ∷ rest → items_text n its ≡ item_text n it ++ items_text (n + 1) rest
unfolding items_text
next_line n e = ap (items_text n) e

pub no_line : (n : ℕ) {its : List Item} → its ≡ [] → items_text n its ≡ []
unfolding items_text
no_line n e = ap (items_text n) e
