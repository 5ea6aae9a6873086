-- Numbers of two and four bytes, there and back.
use Rattle.std.proofs.Common.{◌≡◌, ℕ, ◌+◌, ◌*◌, ◌/◌, ◌%◌, ◌^◌, ◌<◌, [], ◌∷◌, sym, ap, ◌∙◌, arith}
use native.Mathlib.Nat.{div-div-eq-div-mul}
use Rattle.std.proofs.lemmas.Nat.{div-add-mod'}
use Rattle.record_format.specs.Written.{two, four}

pub two_back : (n : ℕ) → n < 65536 → (n / 256 % 256) * 256 + n % 256 ≡ n
two_back n h = omega arith

-- a number from its quotients and remainders, one byte after the other
from_quotients : (n q1 q2 q3 r0 r1 r2 r3 : ℕ) → q1 * 256 + r0 ≡ n → q2 * 256 + r1 ≡ q1 → q3 * 256 + r2 ≡ q2 → r3 ≡ q3 → r3 * 16777216 + r2 * 65536 + r1 * 256 + r0 ≡ n
from_quotients n q1 q2 q3 r0 r1 r2 r3 a b c d = omega arith

pub four_back : (n : ℕ) → n < 2 ^ 32 → (n / 16777216 % 256) * 16777216 + (n / 65536 % 256) * 65536 + (n / 256 % 256) * 256 + n % 256 ≡ n
four_back n h =
    let e : n / 256 / 256 ≡ n / 65536 = div-div-eq-div-mul n 256 256 in
    let f : n / 65536 / 256 ≡ n / 16777216 = div-div-eq-div-mul n 65536 256 in
    let a = div-add-mod' n 256 in
    let b = div-add-mod' (n / 256) 256 in
    let c = div-add-mod' (n / 65536) 256 in
    let q : n / 16777216 < 256 = omega arith in
    let d : n / 16777216 % 256 ≡ n / 16777216 = omega arith in
    from_quotients n (n / 256) (n / 65536) (n / 16777216) (n % 256) (n / 256 % 256) (n / 65536 % 256) (n / 16777216 % 256) a (ap (λ k. k * 256 + n / 256 % 256) (sym e) ∙ b) (ap (λ k. k * 256 + n / 65536 % 256) (sym f) ∙ c) d

pub two_forth : (a b : ℕ) → a < 256 → b < 256 → two (a * 256 + b) ≡ a ∷ b ∷ []
two_forth a b ha hb =
    let p : (a * 256 + b) / 256 % 256 ≡ a = omega arith in
    let q : (a * 256 + b) % 256 ≡ b = omega arith in
    (λ i. p i ∷ q i ∷ [])

pub four_forth : (a b c d : ℕ) → a < 256 → b < 256 → c < 256 → d < 256 → four (a * 16777216 + b * 65536 + c * 256 + d) ≡ a ∷ b ∷ c ∷ d ∷ []
four_forth a b c d ha hb hc hd =
    let n = a * 16777216 + b * 65536 + c * 256 + d in
    let p : n / 16777216 % 256 ≡ a = omega arith in
    let q : n / 65536 % 256 ≡ b = omega arith in
    let r : n / 256 % 256 ≡ c = omega arith in
    let s : n % 256 ≡ d = omega arith in
    (λ i. p i ∷ q i ∷ r i ∷ s i ∷ [])
