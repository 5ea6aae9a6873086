-- What is promised of a script that is run over a bank.
use Rattle.std.specs.Prelude.{◌≡◌, ℕ, ◌*◌, cond, List, ◌++◌, length, drop, Some, None, Ok, Err, Option, Result, nat_le}
use Rattle.lines.specs.Scripts.{lines_of, within_limits}
use Rattle.stores.specs.Model.{StoreModel}
use Rattle.law.specs.History.{History}
use Rattle.law.specs.History.Answer.{done}
use Rattle.law.specs.Opening.{PlainBoard, board_open, opening}
use Rattle.law.specs.Promise.{Promised}
use Rattle.law.specs.Store.{Store}
use Rattle.middleware.specs.Listing.{fault_listed}
use Rattle.middleware.specs.declared.fault.Asked.TheVariants.{Open}
use Rattle.refinement.specs.Stores.{law_bank}
use Rattle.script.specs.declared.fault.Unfit as faults
use Rattle.script.specs.declared.fault.Unfit.TheVariants.{TooLong, BufferShort}
use Rattle.script.specs.declared.run.Played.{Played}
use Rattle.script.specs.declared.run.Unplayed.{Unplayed}
use Rattle.script.specs.declared.run.Unplayed.TheVariants.{NoMemory, Unfit, NotOpened}
use Rattle.script.specs.Replies.{calls_of, text}

-- the answer buffer needs 32 bytes for each line
abbrev pub needed : List ℕ → ℕ
needed script = length (lines_of script) * 32

-- why no line of a script is run, whatever the bank: it is too long, or else the room for its answers is too short
abbrev pub unfit : List ℕ → ℕ → Option faults.Unfit
unfit script room = cond (within_limits script) (cond (nat_le (needed script) room) None (Some (BufferShort (needed script)))) (Some TooLong)

-- the same as the answer of a check
abbrev pub checked : Option faults.Unfit → Result (Unit {0}) faults.Unfit
checked None = Ok tt
checked (Some f) = Err f

-- the printed answers of the plain board that an opened bank is, line by line
abbrev pub answers_to : List Store → List ℕ → List ℕ
answers_to bank script = text 1 (lines_of script) (board_open bank PlainBoard.unopened).1

-- a script that was run: n bytes of answers at the front of the buffer, the others as they were, and the law of whole queues for its calls
pub record Plays (bank : List Store) (script buffer : List ℕ) (n : ℕ) (filled : List ℕ) (left : List Store) : Type 0 where
  pub fit : unfit script (length buffer) ≡ None
  pub ends : n ≡ length (answers_to bank script)
  pub bytes : filled ≡ answers_to bank script ++ drop n buffer
  pub law : (h : History) × Promised bank (calls_of (lines_of script)) done h left

-- a script that is not run leaves every byte of the buffer, and every store; want of memory and a refused opening come after what makes a script unfit
abbrev pub ScriptPromise : {X : Type 0} → (X → List StoreModel) → X → List ℕ → List ℕ → Result (Played X) (Unplayed X) → List ℕ → Type 0
ScriptPromise stores bank script buffer (Ok run) filled = Plays (law_bank (stores bank)) script buffer run.length filled (law_bank (stores run.bank))
ScriptPromise stores bank script buffer (Err (NoMemory b)) filled = (unfit script (length buffer) ≡ None) × (b ≡ bank) × (filled ≡ buffer)
ScriptPromise stores bank script buffer (Err (Unfit f b)) filled = (unfit script (length buffer) ≡ Some f) × (b ≡ bank) × (filled ≡ buffer)
ScriptPromise stores bank script buffer (Err (NotOpened f b)) filled =
    (unfit script (length buffer) ≡ None) × (fault_listed f ≡ opening (law_bank (stores bank))) × (f.asked ≡ Open) × (stores b ≡ stores bank) × (filled ≡ buffer)
