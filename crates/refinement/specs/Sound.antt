-- What a machine keeps from its making on, and what its calls promise.
use Rattle.std.specs.Prelude.{◌≡◌, ℕ, ◌<◌, false, List, [], length, slice_index_or}
use Rattle.calls.specs.declared.call.Call.{Call}
use Rattle.stores.specs.Model.{Lawful, StoreModel}
use Rattle.banks.specs.Model.{store_at}
use Rattle.ledger.specs.Sets.{SetModel, no_set}
use Rattle.machine.specs.Machine.{Machine}
use Rattle.law.specs.History.{Answer, is_fault}
use Rattle.law.specs.Opening.{PlainBoard, board_open, board_step}
use Rattle.law.specs.Sound as law
use Rattle.refinement.specs.Stores.{law_bank}
use Rattle.refinement.specs.Worlds.{middle_of, plain_of}
use Rattle.refinement.specs.Steps.{machine_open, machine_step}

-- every store of a bank keeps what every store keeps
abbrev pub LawfulStores : List StoreModel → Type 0
LawfulStores ms = (k : ℕ) → k < length ms → Lawful (store_at ms k)

-- a numbered write set has a mark for each of eight replicas
abbrev pub EightMarks : List SetModel → Type 0
EightMarks us = (i : ℕ) → i < length us → length (slice_index_or us i no_set).applied ≡ 8

-- what a machine keeps from its making on: lawful stores, eight marks, and what the law's middleware keeps
pub record Sound (b : Machine) : Type 0 where
  pub stores : LawfulStores b.stores
  pub marks : EightMarks b.sets
  pub coupled : law.Sound (middle_of b)

-- an answer a, and the machine b after it, are what the plain board comes to
pub record Follows (o : Answer × PlainBoard) (a : Answer) (b : Machine) : Type 0 where
  pub answer : a ≡ o.0
  pub after : plain_of b ≡ o.1
  pub sound : Sound b

-- a machine that was just made: not opened, nothing begun and nothing numbered
pub record Fresh (b : Machine) : Type 0 where
  pub unopened : b.opened ≡ false
  pub transactions : b.txns ≡ []
  pub write_sets : b.sets ≡ []

-- over lawful stores it is sound
abbrev pub EveryMaking : Type 0
EveryMaking = (b : Machine) → Fresh b → LawfulStores b.stores → Sound b

-- opening a sound machine: the plain board's answer, the plain board after it, sound again
abbrev pub EveryOpening : Type 0
EveryOpening = (b : Machine) → Sound b → Follows (board_open (law_bank b.stores) (plain_of b)) (machine_open b).0 (machine_open b).1

-- every call of a sound machine, opened or not
abbrev pub EveryCall : Type 0
EveryCall = (c : Call) (b : Machine) → Sound b → Follows (board_step c (plain_of b)) (machine_step c b).0 (machine_step c b).1

-- no call of a sound machine meets a store's fault
abbrev pub NoStoreFault : Type 0
NoStoreFault = (c : Call) (b : Machine) → Sound b → is_fault (machine_step c b).0 ≡ false
