-- What is promised of a run that makes a machine over a bank, opens it, and gives it a queue of any length.
use Rattle.std.specs.Prelude.{◌≡◌, ℕ, Bool, true, false, List, [], map}
use Rattle.calls.specs.declared.call.Call.{Call}
use Rattle.tickets.specs.Boards.{Board}
use Rattle.stores.specs.Model.{StoreModel}
use Rattle.machine.specs.Machine.{Machine}
use Rattle.law.specs.History.{accepted, History, run_of}
use Rattle.law.specs.Plain.{just_opened}
use Rattle.law.specs.Steps.{run}
use Rattle.law.specs.Opening.{PlainBoard}
use Rattle.law.specs.World.{board_of}
use Rattle.law.specs.Promise.{Promised}
use Rattle.refinement.specs.Stores.{law_bank}
use Rattle.refinement.specs.Worlds.{plain_of}
use Rattle.refinement.specs.Steps.{machine_open, machine_step}
use Rattle.refinement.specs.Sound.{LawfulStores, Fresh, Sound}

-- so far: of a board of K replicas just opened, the calls that were made, their history, and what the machine came to
pub record Ran (start : Board) (K : ℕ) (calls : List Call) (h : History) (b : Machine) : Type 0 where
  pub answers : h ≡ (run calls [] (just_opened start K)).0
  pub plain : plain_of b ≡ PlainBoard.opened (run calls [] (just_opened start K)).1
  pub sound : Sound b

-- the calls one after the other; where the opening is refused, none is made
abbrev pub run_from : List Call → Bool → Machine → History × Machine
run_from queue true b = run_of machine_step queue [] b
run_from queue false b = ([], b)

-- opened, and given the queue
abbrev pub whole_run : Machine → List Call → History × Machine
whole_run b queue = run_from queue (accepted (machine_open b).0) (machine_open b).1

-- every machine just made, over any lawful stores, and every queue
abbrev pub EveryQueue : Type 0
EveryQueue =
    (b : Machine) → Fresh b → LawfulStores b.stores → (queue : List Call) →
    Promised (law_bank b.stores) queue (machine_open b).0 (whole_run b queue).0 (law_bank (whole_run b queue).1.stores)

-- the copies of which the law speaks are the stores' own boards
abbrev pub OwnBoards : Type 0
OwnBoards = (ms : List StoreModel) → map board_of (law_bank ms) ≡ map (λ m. m.board) ms
