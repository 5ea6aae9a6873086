-- What writing the run record of a board promises, over the plain board.
use Rattle.std.specs.Prelude.{◌≡◌, ℕ, cond, List, [], ◌∷◌, ◌++◌, map, length, take, drop, IfOk, Ok, Result, nat_le}
use Rattle.record_format.specs.Items.{Item}
use Rattle.record_format.specs.Written.{encoded}
use Rattle.record_format.specs.Reading.{decoded}
use Rattle.law.specs.History.{Answer}
use Rattle.law.specs.History.Answer.{told, refused}
use Rattle.law.specs.Plain.{Numbered}
use Rattle.law.specs.Opening.{PlainBoard}
use Rattle.law.specs.Opening.PlainBoard.{unopened, opened}
use Rattle.machine.specs.Machine.{Machine}
use Rattle.refinement.specs.Worlds.{plain_of}
use Rattle.refinement.specs.Sound.{Sound}
use Rattle.refinement.specs.Tops.{BoardWithin}
use Rattle.middleware.specs.declared.fault.BoardFault.{BoardFault}
use Rattle.middleware.specs.Listing.{result_listed}

-- a numbered write set as an item of a record: its home, its s, its pairs
abbrev pub item_of_numbered : Numbered → Item
item_of_numbered y = record { home = y.home; s = y.s; pairs = y.pairs }

-- the numbered write sets of the run so far; there are none before the opening
abbrev pub items_of_plain : PlainBoard → List Item
items_of_plain unopened = []
items_of_plain (opened p) = map item_of_numbered p.sets

-- 9, with the length needed; else the length
abbrev pub in_room : ℕ → ℕ → Answer
in_room needed room = cond (nat_le needed room) (told needed) (refused 9 (needed ∷ []))

-- what is answered where the buffer has so much room: 20, 9, or the length of the record
abbrev pub record_answer : PlainBoard → ℕ → Answer
record_answer unopened room = refused 20 []
record_answer (opened p) room = in_room (length (encoded (items_of_plain (opened p)))) room

-- bytes over the front of a buffer, where there is room
abbrev pub laid_over : List ℕ → List ℕ → List ℕ
laid_over xs b = cond (nat_le (length xs) (length b)) (xs ++ drop (length xs) b) b

-- what the buffer comes to: the record at its front; a refusal leaves every byte
abbrev pub record_bytes : PlainBoard → List ℕ → List ℕ
record_bytes unopened b = b
record_bytes (opened p) b = laid_over (encoded (items_of_plain (opened p))) b

-- the record of a plain board, asked for with the buffer b: what is answered, the buffer after it, and what reads back
pub record Records (p : PlainBoard) (b : List ℕ) (r : Result ℕ BoardFault) (b' : List ℕ) : Type 0 where
  pub answer : result_listed told r ≡ record_answer p (length b)
  pub bytes : b' ≡ record_bytes p b
  pub reads_back : IfOk r (λ n. decoded (take n b') ≡ Ok (items_of_plain p))

-- over a sound middleware whose values are within their tops, as opening it and every call leave them
abbrev pub WritesRecord : Machine → List ℕ → Result ℕ BoardFault → List ℕ → Type 0
WritesRecord m b r b' = Sound m → BoardWithin (plain_of m) → Records (plain_of m) b r b'
