-- What bytes read as: the items of a run, or the number that a malformed record is refused with.
use Rattle.std.specs.Prelude.{◌≡◌, ℕ, zero, suc, ◌+◌, ◌-◌, ◌*◌, Bool, cond, ◌&&◌, ◌||◌, List, [], ◌∷◌, length, drop, Some, None, Ok, Err, Option, Result, ◌==◌, nat_le, nat_lt, slice_index}
use Rattle.std.specs.Option.{option_map}
use Rattle.tickets.specs.WriteSets.{Pairs}
use Rattle.record_format.specs.Items.{Item, fits}
use Rattle.record_format.specs.Written.{first_body, placed_bodies}

-- the number that the first two bytes give, and the first four
abbrev pub two_of : List ℕ → ℕ
two_of bs = slice_index bs 0 * 256 + slice_index bs 1

abbrev pub four_of : List ℕ → ℕ
four_of bs = slice_index bs 0 * 16777216 + slice_index bs 1 * 65536 + slice_index bs 2 * 256 + slice_index bs 3

-- the pair in front, and k pairs from the front
abbrev pub pair_in : List ℕ → ℕ × ℕ
pair_in bs = (slice_index bs 0, four_of (drop 1 bs))

abbrev pub pairs_in : ℕ → List ℕ → Pairs
pairs_in zero bs = []
pairs_in (suc k) bs = pair_in bs ∷ pairs_in k (drop 5 bs)

-- the size of the body that the entry in front announces
abbrev pub size_in : List ℕ → ℕ
size_in es = 2 + 5 * slice_index es 1

-- the item whose entry is in front of `es` and whose body is in front of `rs`
abbrev pub item_in : List ℕ → List ℕ → Item
item_in es rs = record { home = slice_index es 0; s = two_of rs; pairs = pairs_in (slice_index es 1) (drop 2 rs) }

-- the contents from the entry of item n on
abbrev pub entry_of : ℕ → List ℕ → List ℕ
entry_of n bs = drop (first_body (n - 1)) bs

-- what the entry of item n says: its home, how many pairs it has and so how many bytes, and the offset of its body
pub record Entered (bs : List ℕ) (n home pairs size offset : ℕ) : Type 0 where
  pub home_is : home ≡ slice_index bs (first_body (n - 1))
  pub pairs_is : pairs ≡ slice_index bs (first_body (n - 1) + 1)
  pub size_is : size ≡ 2 + 5 * pairs
  pub offset_is : offset ≡ two_of (drop (first_body (n - 1) + 2) bs)

-- item n stands there: its offset is that of its body, its body is not cut short, and it may stand at its number
abbrev pub stands : ℕ → ℕ → List ℕ → List ℕ → Bool
stands n at es rs = two_of (drop 2 es) == at && (nat_le (size_in es) (length rs) && fits n (item_in es rs))

-- the item of that number, with its body at a place of the record, where it stands there
abbrev pub item_at : List ℕ → ℕ → ℕ → Option Item
item_at bs n at = cond (stands n at (entry_of n bs) (drop at bs)) (Some (item_in (entry_of n bs) (drop at bs))) None

-- an item before the others, where they read
abbrev pub before : Item → Result (List Item) ℕ → Result (List Item) ℕ
before it (Ok its) = Ok (it ∷ its)
before it (Err n) = Err n

-- k items from number n on, the contents in `es` and the bodies in `rs`, the first of them at the offset;
-- or the number of the first bad item; or the number after the last, where bytes are left over
abbrev pub decoded_from : ℕ → ℕ → ℕ → List ℕ → List ℕ → Result (List Item) ℕ
decoded_from zero n at es [] = Ok []
decoded_from zero n at es (r ∷ rs) = Err n
decoded_from (suc k) n at es rs =
    cond (stands n at es rs)
    (before (item_in es rs) (decoded_from k (n + 1) (at + size_in es) (drop 4 es) (drop (size_in es) rs)))
    (Err n)

-- no count, a count above 256, or contents cut short
abbrev pub headless : List ℕ → Bool
headless bs = nat_lt (length bs) 2 || (nat_lt 256 (two_of bs) || nat_lt (length bs) (first_body (two_of bs)))

-- the whole record
abbrev pub decoded : List ℕ → Result (List Item) ℕ
decoded bs =
    cond (headless bs) (Err 0)
    (decoded_from (two_of bs) 1 (first_body (two_of bs)) (drop 2 bs) (drop (first_body (two_of bs)) bs))

-- how many items read, or the number that the record is refused with
abbrev pub count_of : Result (List Item) ℕ → Result ℕ ℕ
count_of (Ok its) = Ok (length its)
count_of (Err n) = Err n

-- the items that a record gives: none where it does not read
abbrev pub items_read : Result (List Item) ℕ → List Item
items_read (Ok its) = its
items_read (Err n) = []

abbrev pub items_in : List ℕ → List Item
items_in bs = items_read (decoded bs)

-- its bodies, each with its place
abbrev pub bodies_in : List ℕ → List (List ℕ × ℕ)
bodies_in bs = placed_bodies (first_body (length (items_in bs))) (items_in bs)

-- what stands at a number, counted from 1
abbrev pub numbered : {A : Type 0} → List A → ℕ → Option A
numbered xs zero = None
numbered [] (suc k) = None
numbered (x ∷ xs) (suc zero) = Some x
numbered (x ∷ xs) (suc (suc k)) = numbered xs (suc k)

-- the place and the length of the body of item n, where there is such an item
abbrev pub span : List ℕ × ℕ → ℕ × ℕ
span p = (p.1, length p.0)

abbrev pub span_in : List ℕ → ℕ → Option (ℕ × ℕ)
span_in bs n = option_map span (numbered (bodies_in bs) n)
