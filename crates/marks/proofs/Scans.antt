-- Counts, searches and walks over the objects that a test marks. Assumes nothing.
use Rattle.std.proofs.Common.{◌≡◌, ℕ, zero, suc, ◌+◌, ◌<◌, ◌≤◌, Bool, true, false, cond, ◌||◌, eqb, Some, None, Option, sym, refl, ap, ◌∙◌, ⊎_elim, arith}
use Rattle.std.proofs.Math.Bool.{or_assoc}
use Rattle.std.proofs.lemmas.Bool.{cases_eq, eq-eqb, ne_eqb, or_left, or_right, or_from}
use Rattle.marks.specs.Marked.{count_below, any_below, lowest_from, Lowest}

-- ---- count-below

pub count_splits : (f : ℕ → Bool) (a n : ℕ) → count_below f (a + n) ≡ count_below (λ i. f (a + i)) n + count_below f a
unfolding count_below
count_splits f a zero = let e : a + 0 ≡ a = omega arith in ap (count_below f) e ∙ omega arith
count_splits f a (suc n) = let e : a + suc n ≡ suc (a + n) = omega arith in ap (count_below f) e ∙ omega (arith, count_splits f a n)

pub count_same : (f g : ℕ → Bool) (n : ℕ) → ((i : ℕ) → i < n → f i ≡ g i) → count_below f n ≡ count_below g n
unfolding count_below
count_same f g zero h = refl
count_same f g (suc n) h = λ i. cond (h n (omega arith) i) 1 0 + count_same f g n (λ k l. h k (omega arith)) i

at_most_one : (b : Bool) → cond b 1 0 ≤ 1
at_most_one true = omega arith
at_most_one false = omega arith

pub count_within : (f : ℕ → Bool) (n : ℕ) → count_below f n ≤ n
unfolding count_below
count_within f zero = omega arith
count_within f (suc n) = omega (arith, count_within f n, at_most_one (f n))

-- one more is marked: the count grows by one, or stays where it was marked before
pub count_with : (f : ℕ → Bool) (j n : ℕ) → j < n → count_below (λ k. cond (eqb k j) true (f k)) n ≡ cond (f j) 0 1 + count_below f n
unfolding count_below
count_with f j zero h = absurd (omega arith)
count_with f j (suc n) h =
    let g : ℕ → Bool = λ k. cond (eqb k j) true (f k) in
    ⊎_elim (λ q.
    let here : g n ≡ true = ap (λ t. cond t true (f n)) (eq-eqb n j (sym q)) in
    let rest : count_below g n ≡ count_below f n = count_same g f n (λ i l. ap (λ t. cond t true (f i)) (ne_eqb i j (λ e. omega arith))) in
    (λ i. cond (here i) 1 0 + rest i) ∙ one_here (f n) (count_below f n) ∙ ap (λ k. cond (f k) 0 1 + (cond (f n) 1 0 + count_below f n)) (sym q))
    (λ ne.
    let there : g n ≡ f n = ap (λ t. cond t true (f n)) (ne_eqb n j (λ e. ne (sym e))) in
    ap (λ t. cond t 1 0 + count_below g n) there ∙ omega (arith, count_with f j n (omega (arith, ne)))) (cases_eq j n)
  where
    one_here : (b : Bool) (c : ℕ) → 1 + c ≡ cond b 0 1 + (cond b 1 0 + c)
    one_here true c = omega arith
    one_here false c = omega arith

-- ---- any_below

pub any_at : (f : ℕ → Bool) (k n : ℕ) → k < n → f k ≡ true → any_below f n ≡ true
unfolding any_below
any_at f k zero h e = absurd (omega arith)
any_at f k (suc n) h e =
    ⊎_elim (λ q. or_left (f n) (any_below f n) (ap f (sym q) ∙ e)) (λ ne. or_right (f n) (any_below f n) (any_at f k n (omega (arith, ne)) e)) (cases_eq k n)

pub any_nowhere : (f : ℕ → Bool) (n : ℕ) → ((k : ℕ) → k < n → f k ≡ false) → any_below f n ≡ false
unfolding any_below
any_nowhere f zero h = refl
any_nowhere f (suc n) h = or_from (f n) (any_below f n) (h n (omega arith)) (any_nowhere f n (λ k l. h k (omega arith)))

pub any_splits : (f : ℕ → Bool) (a n : ℕ) → any_below f (a + n) ≡ (any_below (λ i. f (a + i)) n || any_below f a)
unfolding any_below
any_splits f a zero = let e : a + 0 ≡ a = omega arith in ap (any_below f) e
any_splits f a (suc n) =
    let e : a + suc n ≡ suc (a + n) = omega arith in
    ap (any_below f) e ∙ ap (λ x. f (a + n) || x) (any_splits f a n) ∙ sym (or_assoc (f (a + n)) (any_below (λ i. f (a + i)) n) (any_below f a))

pub any_same : (f g : ℕ → Bool) (n : ℕ) → ((i : ℕ) → i < n → f i ≡ g i) → any_below f n ≡ any_below g n
unfolding any_below
any_same f g zero h = refl
any_same f g (suc n) h = λ i. h n (omega arith) i || any_same f g n (λ k l. h k (omega arith)) i

-- ---- lowest-from

-- objects that are not marked may be passed over
pub lowest_passes : (f : ℕ → Bool) (j d n : ℕ) → ((i : ℕ) → j ≤ i → i < j + d → f i ≡ false) → lowest_from f j (d + n) ≡ lowest_from f (j + d) n
unfolding lowest_from
lowest_passes f j zero n low = let e : j ≡ j + 0 = omega arith in let z : 0 + n ≡ n = omega arith in (λ i. lowest_from f (e i) (z i))
lowest_passes f j (suc d) n low =
    let e : suc d + n ≡ suc (d + n) = omega arith in
    let s : j + 1 + d ≡ j + suc d = omega arith in
    ap (lowest_from f j) e
    ∙ ap (λ b. cond b (Some j) (lowest_from f (j + 1) (d + n))) (low j (omega arith) (omega arith))
    ∙ lowest_passes f (j + 1) d n (λ i p q. low i (omega arith) (omega arith))
    ∙ ap (λ k. lowest_from f k n) s

-- and the walk stops at one that is
pub lowest_stops : (f : ℕ → Bool) (j n : ℕ) → 0 < n → f j ≡ true → lowest_from f j n ≡ Some j
unfolding lowest_from
lowest_stops f j zero h e = absurd (omega arith)
lowest_stops f j (suc n) h e = ap (λ b. cond b (Some j) (lowest_from f (j + 1) n)) e

no_lower : (f : ℕ → Bool) (j : ℕ) (o : Option ℕ) → f j ≡ false → Lowest f (j + 1) o → Lowest f j o
no_lower f j (Some k) e (l, m, low) = (omega arith, m, λ i p q. ⊎_elim (λ s. ap f s ∙ e) (λ ne. low i (omega (arith, ne)) q) (cases_eq i j))
no_lower f j None e low = λ i p. ⊎_elim (λ s. ap f s ∙ e) (λ ne. low i (omega (arith, ne))) (cases_eq i j)

lowest_of : (b : Bool) (f : ℕ → Bool) (j : ℕ) (o : Option ℕ) → f j ≡ b → Lowest f (j + 1) o → Lowest f j (cond b (Some j) o)
lowest_of true f j o e rest = (omega arith, e, λ i p q. absurd (omega arith))
lowest_of false f j o e rest = no_lower f j o e rest

-- a walk over all the objects that may be marked finds the lowest
pub walk_finds_the_lowest : (f : ℕ → Bool) (j n : ℕ) → ((i : ℕ) → j + n ≤ i → f i ≡ false) → Lowest f j (lowest_from f j n)
unfolding lowest_from
walk_finds_the_lowest f j zero past = λ i p. past i (omega arith)
walk_finds_the_lowest f j (suc n) past = lowest_of (f j) f j (lowest_from f (j + 1) n) refl (walk_finds_the_lowest f (j + 1) n (λ i p. past i (omega arith)))
