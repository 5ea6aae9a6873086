-- The bits of one number, as tests of their places. Assumes nothing.
use Rattle.std.proofs.Common.{◌≡◌, ℕ, zero, suc, ◌+◌, ◌-◌, ◌/◌, ◌%◌, ◌^◌, ◌<◌, ◌≤◌, max, min, Bool, true, false, cond, not, ◌&&◌, ◌||◌, eqb, sym, refl, ap, ◌∙◌, ⊎_elim, mod-eq_of_lt, pow-suc, arith}
use lib.Bits.{bit_and, bit_or}
use lib.Count.{ones, ones_cat, count_trailing_zeros, under}
use Rattle.std.proofs.lemmas.Nat.{mod-pow-add, mod_below, shr-shr, pow_pos, pow_below}
use Rattle.std.proofs.lemmas.Nat.Bits.{bit_at_lowest, bit_at-suc, bit_at-zero, bit_at-lt, bit_at_above, bit_at_or, bit_at_and, bit_at-pow_same, bit_at-pow_other}
use Rattle.std.proofs.lemmas.Bool.{cases_eq, eq-eqb, ne_eqb}
use Rattle.std.proofs.lemmas.Bool.Decides.{nat_tests}
use Rattle.marks.specs.Marked.{bit, count_below}

pub bit_shifted : (x s i : ℕ) → bit (x / 2 ^ s) i ≡ bit x (s + i)
bit_shifted x s i = ap (λ n. eqb (n % 2) 1) (shr-shr x s i)

pub bit-none : (i : ℕ) → bit 0 i ≡ false
bit-none i = ap (λ n. eqb n 1) (bit_at-zero i)

-- a number below 2 ^ k has no bit from k on
pub bit_past : (w k i : ℕ) → w < 2 ^ k → k ≤ i → bit w i ≡ false
bit_past w k i h l = ap (λ n. eqb n 1) (bit_at_above w k i h l)

-- ---- `|` and `&`

of_max : (x y : ℕ) → x < 2 → y < 2 → eqb (max x y) 1 ≡ (eqb x 1 || eqb y 1)
of_max x y h k = grind (arith, nat_tests)

of_min : (x y : ℕ) → x < 2 → y < 2 → eqb (min x y) 1 ≡ (eqb x 1 && eqb y 1)
of_min x y h k = grind (arith, nat_tests)

pub bit-or : (a b i : ℕ) → bit (bit_or a b) i ≡ (bit a i || bit b i)
bit-or a b i = ap (λ n. eqb n 1) (bit_at_or a b i) ∙ of_max _ _ (bit_at-lt a i) (bit_at-lt b i)

pub bit-and : (a b i : ℕ) → bit (bit_and a b) i ≡ (bit a i && bit b i)
bit-and a b i = ap (λ n. eqb n 1) (bit_at_and a b i) ∙ of_min _ _ (bit_at-lt a i) (bit_at-lt b i)

-- ---- `!`

-- bit 0 is the last digit, and bit i + 1 is bit i of the rest
bit-zero : (x : ℕ) → bit x 0 ≡ eqb (x % 2) 1
bit-zero x = ap (λ n. eqb n 1) (bit_at_lowest x)

bit-suc : (x i : ℕ) → bit x (suc i) ≡ bit (x / 2) i
bit-suc x i = ap (λ n. eqb n 1) (bit_at-suc x i)

flip_digit : (x y : ℕ) → x + y ≡ 1 → eqb x 1 ≡ not (eqb y 1)
flip_digit x y e = grind (arith, nat_tests)

-- the complement in k bits
pub bit_not : (k x i : ℕ) → x < 2 ^ k → i < k → bit ((2 ^ k - 1) - x) i ≡ not (bit x i)
bit_not zero x i h l = absurd (omega arith)
bit_not (suc k) x zero h l =
    bit-zero ((2 ^ suc k - 1) - x) ∙ flip_digit (((2 ^ suc k - 1) - x) % 2) (x % 2) (omega (arith, pow-suc 2 k)) ∙ ap not (sym (bit-zero x))
bit_not (suc k) x (suc i) h l =
    let e : ((2 ^ suc k - 1) - x) / 2 ≡ (2 ^ k - 1) - x / 2 = omega (arith, pow-suc 2 k) in
    bit-suc ((2 ^ suc k - 1) - x) i ∙ ap (λ n. bit n i) e ∙ bit_not k (x / 2) i (omega (arith, pow-suc 2 k)) (omega arith) ∙ ap not (sym (bit-suc x i))

-- ---- one bit

pub bit-one : (s i : ℕ) → bit (2 ^ s) i ≡ eqb i s
bit-one s i =
    ⊎_elim (λ q. ap (bit (2 ^ s)) q ∙ ap (λ n. eqb n 1) (bit_at-pow_same s) ∙ sym (eq-eqb i s q)) (λ ne. ap (λ n. eqb n 1) (bit_at-pow_other s i ne) ∙ sym (ne_eqb i s ne))
    (cases_eq i s)

-- setting bit s, and clearing it, change that bit alone
pub bit-set : (w s i : ℕ) → bit (bit_or w (2 ^ s)) i ≡ cond (eqb i s) true (bit w i)
bit-set w s i = bit-or w (2 ^ s) i ∙ ap (λ b. bit w i || b) (bit-one s i) ∙ turned_on (bit w i) (eqb i s)
  where
    turned_on : (x e : Bool) → (x || e) ≡ cond e true x
    turned_on true true = refl
    turned_on true false = refl
    turned_on false true = refl
    turned_on false false = refl

pub bit-clear : (k w s i : ℕ) → s < k → i < k → bit (bit_and w ((2 ^ k - 1) - 2 ^ s)) i ≡ cond (eqb i s) false (bit w i)
bit-clear k w s i h l =
    bit-and w ((2 ^ k - 1) - 2 ^ s) i ∙ ap (λ b. bit w i && b) (bit_not k (2 ^ s) i (pow_below s k h) l ∙ ap not (bit-one s i)) ∙ turned_off (bit w i) (eqb i s)
  where
    turned_off : (x e : Bool) → (x && not e) ≡ cond e false x
    turned_off true true = refl
    turned_off true false = refl
    turned_off false true = refl
    turned_off false false = refl

-- ---- `count_ones`

digit_ones : (x : ℕ) → x < 2 → ones x ≡ cond (eqb x 1) 1 0
unfolding ones
digit_ones zero h = refl
digit_ones (suc zero) h = refl
digit_ones (suc (suc x)) h = absurd (omega arith)

low_ones : (w n : ℕ) → ones (w % 2 ^ n) ≡ count_below (bit w) n
unfolding count_below
low_ones w zero = ap ones (omega arith) ∙ digit_ones 0 (omega arith)
low_ones w (suc n) =
    ap ones (ap (λ k. w % 2 ^ k) (omega arith) ∙ mod-pow-add w 1 n)
    ∙ ones_cat n (w / 2 ^ n % 2) (w % 2 ^ n) (mod_below w (2 ^ n) (pow_pos n))
    ∙ ap (λ k. k + ones (w % 2 ^ n)) (digit_ones (w / 2 ^ n % 2) (omega arith))
    ∙ ap (λ k. cond (bit w n) 1 0 + k) (low_ones w n)

-- a number of n bits has as many ones as bits that are set
pub ones_are_bits : (w n : ℕ) → w < 2 ^ n → ones w ≡ count_below (bit w) n
ones_are_bits w n h = ap ones (sym (mod-eq_of_lt h)) ∙ low_ones w n

-- ---- `trailing_zeros`

-- the zeros below a number's lowest set bit stop at that bit
pub record LowestBit (k x t : ℕ) : Type 0 where
  pub within : t < k
  pub is_set : bit x t ≡ true
  pub below : (i : ℕ) → i < t → bit x i ≡ false

lowest_step : (k x d t : ℕ) → x % 2 ≡ d → d < 2 → (d ≡ 0 → LowestBit k (x / 2) t) → LowestBit (suc k) x (under d t)
lowest_step k x zero t e h rest =
    let r = rest refl in
    let none_here : bit x 0 ≡ false = bit-zero x ∙ ap (λ n. eqb n 1) e in
    let low : (i : ℕ) → i < suc t → bit x i ≡ false = λ i. lower i none_here r.below in
    record { within = omega (arith, r.within); is_set = bit-suc x t ∙ r.is_set; below = low }
  where
    lower : (i : ℕ) → bit x 0 ≡ false → ((j : ℕ) → j < t → bit (x / 2) j ≡ false) → i < suc t → bit x i ≡ false
    lower zero z f l = z
    lower (suc i) z f l = bit-suc x i ∙ f i (omega arith)
lowest_step k x (suc zero) t e h rest = record { within = omega arith; is_set = bit-zero x ∙ ap (λ n. eqb n 1) e; below = λ i l. absurd (omega arith) }
lowest_step k x (suc (suc d)) t e h rest = absurd (omega arith)

pub trailing_lowest : (k x : ℕ) → 0 < x → x < 2 ^ k → LowestBit k x (count_trailing_zeros k x)
unfolding count_trailing_zeros
trailing_lowest zero x p h = absurd (omega arith)
trailing_lowest (suc k) x p h =
    lowest_step k x (x % 2) (count_trailing_zeros k (x / 2)) refl (omega arith) (λ e. trailing_lowest k (x / 2) (omega arith) (omega (arith, pow-suc 2 k)))
