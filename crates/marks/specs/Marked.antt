-- Which objects are marked, and what is asked of marks.
use Rattle.std.specs.Prelude.{◌≡◌, ℕ, zero, suc, ◌+◌, ◌/◌, ◌%◌, ◌^◌, ◌<◌, ◌≤◌, Bool, true, false, cond, ◌&&◌, ◌||◌, List, Some, None, Option, ◌==◌, nat_lt, slice_index}
use Rattle.marks.specs.declared.marks.Marks.{Marks}

-- ---- where an object's mark stands

-- bit i of the number w, from the lowest
abbrev pub bit : ℕ → ℕ → Bool
bit w i = w / 2 ^ i % 2 == 1

-- in a list of words of 64 bits, the mark of object j is bit j mod 64 of word j div 64; past the last word there is none
unfoldable pub marked_in : List ℕ → ℕ → Bool
marked_in ws j = bit (slice_index ws (j / 64)) (j % 64)

-- the objects that a set marks: of the 128, and no others
unfoldable pub marked : Marks → ℕ → Bool
marked m j = nat_lt j 128 && marked_in m.words j

-- ---- marks as a test of the object

-- nothing is marked
abbrev pub no_mark : ℕ → Bool
no_mark k = false

-- of n objects, object j is marked or not as b says, and the others are as they were; with no such object nothing changes
abbrev pub with_mark : ℕ → ℕ → Bool → (ℕ → Bool) → ℕ → Bool
with_mark n j b f = cond (nat_lt j n) (λ k. cond (k == j) b (f k)) f

-- what one of two marks
abbrev pub either : (ℕ → Bool) → (ℕ → Bool) → ℕ → Bool
either f g = λ k. f k || g k

-- what both of two mark
abbrev pub both : (ℕ → Bool) → (ℕ → Bool) → ℕ → Bool
both f g = λ k. f k && g k

-- how many of the objects below n are marked
unfoldable pub count_below : (ℕ → Bool) → ℕ → ℕ
count_below f zero = 0
count_below f (suc n) = cond (f n) 1 0 + count_below f n

-- whether some object below n is marked
unfoldable pub any_below : (ℕ → Bool) → ℕ → Bool
any_below f zero = false
any_below f (suc n) = f n || any_below f n

-- the lowest marked object among the n from j on
unfoldable pub lowest_from : (ℕ → Bool) → ℕ → ℕ → Option ℕ
lowest_from f j zero = None
lowest_from f j (suc n) = cond (f j) (Some j) (lowest_from f (j + 1) n)

-- what a walk from j on finds: an object that is marked, with none marked before it; or none, and then none is marked
abbrev pub Lowest : (ℕ → Bool) → ℕ → Option ℕ → Type 0
Lowest f j (Some k) = (j ≤ k) × (f k ≡ true) × ((i : ℕ) → j ≤ i → i < k → f i ≡ false)
Lowest f j None = (i : ℕ) → j ≤ i → f i ≡ false
