-- Numbers and pairs of a record, byte by byte.
use Rattle.std.proofs.Common.{◌≡◌, ℕ, zero, suc, ◌+◌, ◌*◌, ◌<◌, ◌≤◌, List, ◌∷◌, map, get_or, take, drop, sym, refl, ap, ◌∙◌, add-zero, lit<, lit≤, arith}
use Rattle.std.specs.Simd.{first_chunks}
use Rattle.std.proofs.lemmas.List.{get_or-drop, get_or-take, drop-take}
use Rattle.record_format.specs.Reading.{pair_in, pairs_in}

pub first_at : (bs : List ℕ) (at : ℕ) → get_or (drop at bs) 0 0 ≡ get_or bs at 0
first_at bs at = get_or-drop at bs 0 0 ∙ ap (λ m. get_or bs m 0) (add-zero at)

-- the number that the four bytes behind the first give
abbrev pub value_behind : List ℕ → ℕ
value_behind bs = get_or bs 1 0 * 16777216 + get_or bs 2 0 * 65536 + get_or bs 3 0 * 256 + get_or bs 4 0

pair_by_bytes : (bs : List ℕ) → pair_in bs ≡ (get_or bs 0 0, value_behind bs)
pair_by_bytes bs =
    let byte : (k : ℕ) → get_or (drop 1 bs) k 0 ≡ get_or bs (1 + k) 0 = λ k. get_or-drop 1 bs k 0 in
    (λ i. (get_or bs 0 0, byte 0 i * 16777216 + byte 1 i * 65536 + byte 2 i * 256 + byte 3 i))

-- ---- pairs, five bytes each

-- a pair is read from five bytes
pair_in_front : (n : ℕ) (bs : List ℕ) → 5 ≤ n → pair_in (take n bs) ≡ pair_in bs
pair_in_front n bs h =
    let byte : (k : ℕ) → k < 5 → get_or (take n bs) k 0 ≡ get_or bs k 0 = λ k l. get_or-take n bs k 0 (omega arith) in
    pair_by_bytes (take n bs)
    ∙ (λ i. (byte 0 (lit< tt) i, byte 1 (lit< tt) i * 16777216 + byte 2 (lit< tt) i * 65536 + byte 3 (lit< tt) i * 256 + byte 4 (lit< tt) i))
    ∙ sym (pair_by_bytes bs)

pairs_in_chunks : (k : ℕ) (bs : List ℕ) → map pair_in (first_chunks 5 k bs) ≡ pairs_in k bs
pairs_in_chunks zero bs = refl
pairs_in_chunks (suc k) bs = (λ i. pair_in_front 5 bs (lit≤ tt) i ∷ pairs_in_chunks k (drop 5 bs) i)

pairs_in_front : (k : ℕ) (bs : List ℕ) → pairs_in k (take (5 * k) bs) ≡ pairs_in k bs
pairs_in_front zero bs = refl
pairs_in_front (suc k) bs =
    let more : 5 * suc k ≡ 5 + 5 * k = omega arith in
    ap (λ n. pairs_in (suc k) (take n bs)) more
    ∙ (λ i. pair_in_front (5 + 5 * k) bs (omega arith) i ∷ pairs_in k (drop-take 5 (5 * k) bs i))
    ∙ ap (λ ps. pair_in bs ∷ ps) (pairs_in_front k (drop 5 bs))

-- so many pairs from the front, as arrays of five bytes
pub pairs_by_chunks : (k n c : ℕ) (bs : List ℕ) → n ≡ 5 * k → c ≡ k → map pair_in (first_chunks 5 c (take n bs)) ≡ pairs_in k bs
pairs_by_chunks k n c bs long count = (λ i. map pair_in (first_chunks 5 (count i) (take (long i) bs))) ∙ pairs_in_chunks k (take (5 * k) bs) ∙ pairs_in_front k bs
