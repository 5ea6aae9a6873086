-- What reading and writing answer, and what they leave.
use Rattle.std.specs.Prelude.{◌≡◌, ℕ, cond, List, [], ◌∷◌, ◌++◌, length, drop, Some, None, Ok, Err, vec_items, Option, Result, Vec, nat_le}
use Rattle.std.specs.declared.alloc.Global.{Global}
use Rattle.record_format.specs.Items.{Item, unfit}
use Rattle.record_format.specs.Written.{encoded}
use Rattle.record_format.specs.Reading.{decoded, count_of}
use Rattle.record_format.specs.Faults.{Refusal, refusal_of}
use Rattle.record_format.specs.Meaning.{items_of}
use Rattle.record_format.specs.declared.numbered_set.NumberedSet.{NumberedSet}
use Rattle.record_format.specs.declared.fault.RecordFault.{RecordFault}
use Rattle.record_format.specs.declared.fault.RecordFault.TheVariants.{Malformed, BufferShort, NoRun}

-- a malformed record is refused with 8, and the item is named
abbrev pub or_malformed : {A : Type 0} → Result A ℕ → Result A Refusal
or_malformed (Ok a) = Ok a
or_malformed (Err item) = Err (Some 8, item ∷ [])

-- how many items a record has
abbrev pub check_answer : List ℕ → Result ℕ Refusal
check_answer bs = or_malformed (count_of (decoded bs))

-- the same, in the cases of the code
abbrev pub verdict_of : Result ℕ ℕ → Result ℕ RecordFault
verdict_of (Ok n) = Ok n
verdict_of (Err item) = Err (Malformed item)

-- what is made of the items of a record that reads, unless there is no memory for it; a malformed one is refused first
abbrev pub MadeOf : {A : Type 0} → (List Item → A → Type 0) → Result (List Item) ℕ → Result A RecordFault → Type 0
MadeOf Holds (Ok its) (Ok a) = Holds its a
MadeOf Holds (Ok its) (Err e) = refusal_of e ≡ (None, [])
MadeOf Holds (Err item) (Ok a) = ⊥
MadeOf Holds (Err item) (Err e) = refusal_of e ≡ (Some 8, item ∷ [])

-- the write sets of a record, as the caller's own
abbrev pub SetsOf : List Item → Vec NumberedSet Global → Type 0
SetsOf its sets = items_of (vec_items sets) ≡ its

-- how long the record of a list is; a list that is no run has none, and the item that may not stand is named
abbrev pub sized : Option ℕ → ℕ → Result ℕ Refusal
sized (Some item) needed = Err (None, item ∷ [])
sized None needed = Ok needed

-- where the room is too short: 9, with the length needed
abbrev pub within_room : Result ℕ Refusal → ℕ → Result ℕ Refusal
within_room (Ok needed) room = cond (nat_le needed room) (Ok needed) (Err (Some 9, needed ∷ []))
within_room (Err e) room = Err e

abbrev pub size_answer : List Item → Result ℕ Refusal
size_answer its = sized (unfit its) (length (encoded its))

-- writing answers the length of the record
abbrev pub write_answer : List Item → ℕ → Result ℕ Refusal
write_answer its room = within_room (size_answer its) room

-- the same, in the cases of the code
abbrev pub written_as : Option ℕ → ℕ → ℕ → Result ℕ RecordFault
written_as (Some item) needed room = Err (NoRun item)
written_as None needed room = cond (nat_le needed room) (Ok needed) (Err (BufferShort needed))

abbrev pub write_result : List Item → ℕ → Result ℕ RecordFault
write_result its room = written_as (unfit its) (length (encoded its)) room

-- it lays the record over the front of the buffer, and a refusal leaves every byte
abbrev pub laid : Result ℕ Refusal → List ℕ → List ℕ → List ℕ
laid (Ok n) xs b = xs ++ drop (length xs) b
laid (Err e) xs b = b

abbrev pub write_bytes : List Item → List ℕ → List ℕ
write_bytes its b = laid (write_answer its (length b)) (encoded its) b
