-- What ties an opened middleware to its bank.
use Rattle.std.specs.Prelude.{◌≡◌, ℕ, ◌-◌, ◌<◌, ◌≤◌, Bool, true, List, length, Some, slice_index_or}
use Rattle.tickets.specs.WriteSets.{stands}
use Rattle.law.specs.Numbers.{count}
use Rattle.law.specs.Plain.{Numbered, pairs}
use Rattle.law.specs.Store.{Place, Store, open_count, place}
use Rattle.law.specs.Opening.{store_at}
use Rattle.law.specs.World.{Phase, Entry, World, no_entry, entry, world_plain, is_working, working}
use Rattle.law.specs.Orderly.{Orderly}

-- a store with c commits and b places open
pub record StoreOk (c b : ℕ) (σ : Store) : Type 0 where
  pub commits : σ.commits ≡ c
  pub most : 256 ≤ σ.most
  pub places : 16 ≤ length σ.places
  pub opens : open_count σ.places ≡ b

-- the place of an open or pending transaction x, where f says what is applied: what overtook it is applied there and came after what x saw
pub record Held (N : List Numbered) (f : ℕ → Bool) (σ : Store) (x : Entry) : Type 0 where
  pub here : Place
  pub is : place σ x.place ≡ Some here
  pub own : (n : ℕ) → x.phase ≡ Phase.pending n → (1 ≤ n) × (n ≤ length N) × (here.own ≡ pairs N n)
  pub passed : (j : ℕ) → here.overtaken j ≡ true → (m : ℕ) × (x.s < m) × (f m ≡ true) × (stands (pairs N m) j ≡ true)

-- no two open or pending transactions have one place
abbrev pub Apart : List Entry → Type 0
Apart T =
    (t o : ℕ) → 1 ≤ t → t ≤ length T → 1 ≤ o → o ≤ length T →
    is_working (slice_index_or T (t - 1) no_entry).phase ≡ true → is_working (slice_index_or T (o - 1) no_entry).phase ≡ true →
    (slice_index_or T (t - 1) no_entry).home ≡ (slice_index_or T (o - 1) no_entry).home → (slice_index_or T (t - 1) no_entry).place ≡ (slice_index_or T (o - 1) no_entry).place → t ≡ o

-- what is kept from the opening on
pub record Coupled (w : World) : Type 0 where
  pub orderly : Orderly (world_plain w)
  -- a bank of more is not opened
  pub eight : length w.bank ≤ 8
  -- a store has committed what is applied there, and its open places are those of the open and pending transactions
  pub stores : (k : ℕ) → k < length w.bank → StoreOk (count (w.applied k) (length w.sets)) (working k w.entries) (store_at w.bank k)
  pub held : (t : ℕ) → 1 ≤ t → t ≤ length w.entries → is_working (entry w t).phase ≡ true → Held w.sets (w.applied (entry w t).home) (store_at w.bank (entry w t).home) (entry w t)
  pub apart : Apart w.entries
