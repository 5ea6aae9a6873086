-- What holds of every run and of every record.
use Rattle.std.specs.Prelude.{◌≡◌, ℕ, ◌+◌, ◌<◌, ◌≤◌, List, [], ◌∷◌, length, Ok, Err}
use Rattle.std.specs.List.{AllByRecursion}
use Rattle.record_format.specs.Items.{Item, Run}
use Rattle.record_format.specs.Written.{body, encoded, first_body}
use Rattle.record_format.specs.Reading.{decoded}

-- every element is a byte
abbrev pub Bytes : List ℕ → Type 0
Bytes bs = AllByRecursion (λ b. b < 256) bs

pub record RoundTrips : Type 0 where
  -- what is written of a run reads back as the same items
  pub reads_back : (its : List Item) → Run its → decoded (encoded its) ≡ Ok its
  -- what reads is a run
  pub is_a_run : (bs : List ℕ) (its : List Item) → Bytes bs → decoded bs ≡ Ok its → Run its
  -- and is written back as the same bytes
  pub writes_back : (bs : List ℕ) (its : List Item) → Bytes bs → decoded bs ≡ Ok its → encoded its ≡ bs

-- the offsets of the bodies, the first at `at`
abbrev pub offsets : ℕ → List Item → List ℕ
offsets at [] = []
offsets at (it ∷ its) = at ∷ offsets (at + length (body it)) its

-- 256 items of eight pairs are the most: 2 + 4 · 256 + 256 · (2 + 5 · 8) bytes
pub record SizeLaws : Type 0 where
  pub longest : (its : List Item) → Run its → length (encoded its) ≤ 11778
  pub reached : (its : List Item) → length its ≡ 256 → AllByRecursion (λ it. length it.pairs ≡ 8) its → length (encoded its) ≡ 11778
  -- so every offset fits its two bytes
  pub offsets_fit : (its : List Item) → Run its → AllByRecursion (λ at. at < 65536) (offsets (first_body (length its)) its)

-- the worked examples
abbrev pub one_item : Item
one_item = record { home = 0; s = 0; pairs = (0, 5) ∷ [] }

pub record Examples : Type 0 where
  pub no_write_sets : encoded [] ≡ 0 ∷ 0 ∷ []
  pub one_byte_over : decoded (0 ∷ 0 ∷ 0 ∷ []) ≡ Err 1
  pub one_write_set : encoded (one_item ∷ []) ≡ 0 ∷ 1 ∷ 0 ∷ 1 ∷ 0 ∷ 6 ∷ 0 ∷ 0 ∷ 0 ∷ 0 ∷ 0 ∷ 0 ∷ 5 ∷ []
