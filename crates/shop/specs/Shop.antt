-- The bank of a shop, just made: four stores of zeros, with no commit and no open place.
use Rattle.std.specs.Prelude.{◌≡◌, ℕ, replicate, None}
use Rattle.stores.specs.Model.{StoreModel}
use Rattle.beside.specs.declared.Beside.{Beside}
use Rattle.copy_store.specs.declared.store.CopyStore.{CopyStore}
use Rattle.copy_store.specs.Copied as copied
use Rattle.version_store.specs.declared.store.VersionStore.{VersionStore}
use Rattle.version_store.specs.Meaning as versions

-- a store of zeros that takes so many commits
abbrev pub empty_store : ℕ → StoreModel
empty_store most = record { board = replicate 128 0; commits = 0; most = most; places = replicate 16 None }

abbrev pub Two : Type 0
Two = Beside VersionStore CopyStore

pub record EmptyPair (b : Two) : Type 0 where
  pub version : versions.meaning_of b.left ≡ empty_store 256
  pub copy : copied.meaning_of b.right ≡ empty_store 65535

pub record EmptyShop (b : Beside Two Two) : Type 0 where
  pub first_two : EmptyPair b.left
  pub last_two : EmptyPair b.right
