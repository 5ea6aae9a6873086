-- What is promised of a run that opens a bank and runs a queue of any length.
use Rattle.std.specs.Prelude.{◌≡◌, ℕ, Bool, true, false, List, [], ◌∷◌, map, length}
use Rattle.calls.specs.declared.call.Call.{Call}
use Rattle.tickets.specs.Boards.{Board}
use Rattle.law.specs.History.{Answer, accepted, is_fault, History, run_of}
use Rattle.law.specs.History.Event.{event}
use Rattle.law.specs.Plain.{just_opened}
use Rattle.law.specs.Steps.{run}
use Rattle.law.specs.Law.{Law}
use Rattle.law.specs.Store.{Store}
use Rattle.law.specs.Opening.{LawfulBank, start_of, opening, PlainBoard}
use Rattle.law.specs.World.{board_of, Picks}
use Rattle.law.specs.Sound.{Middle, bank_of, plain_of, new_world, middle_open, middle_step, Sound}

-- no answer carries a store's fault
abbrev pub NoFault : History → Type 0
NoFault [] = Unit {0}
NoFault (event c a ∷ h) = (is_fault a ≡ false) × NoFault h

-- a queue run after an accepted opening: its history, and the bank that comes back
pub record Served (bank : List Store) (queue : List Call) (h : History) (after : List Store) : Type 0 where
  -- each answer is the plain board's, and so are the copies
  pub answers : h ≡ (run queue [] (just_opened (start_of bank) (length bank))).0
  pub copies : map board_of after ≡ (run queue [] (just_opened (start_of bank) (length bank))).1.boards
  pub law : Law (start_of bank) (length bank) h (map board_of after)
  pub no_fault : NoFault h

-- so far: of a board of K replicas just opened, the calls that were made, their history, and what the middleware came to
pub record Ran (start : Board) (K : ℕ) (calls : List Call) (h : History) (m : Middle) : Type 0 where
  pub answers : h ≡ (run calls [] (just_opened start K)).0
  pub plain : plain_of m ≡ PlainBoard.opened (run calls [] (just_opened start K)).1
  pub sound : Sound m

-- a run's answer to the opening, its history, and the bank that comes back; where the opening is refused, no call is run
pub record Promised (bank : List Store) (queue : List Call) (a : Answer) (h : History) (after : List Store) : Type 0 where
  pub opening : a ≡ opening bank
  pub served : accepted a ≡ true → Served bank queue h after
  pub refused : accepted a ≡ false → (h ≡ []) × (after ≡ bank)

-- a whole run of the middleware: it is made, opened, and given the queue
abbrev pub run_from : (List Bool → ℕ) → List Call → Bool → Middle → History × Middle
run_from pick queue true m = run_of (middle_step pick) queue [] m
run_from pick queue false m = ([], m)

abbrev pub opened_over : List Store → Answer × Middle
opened_over bank = middle_open (Middle.unopened (new_world bank))

abbrev pub whole_run : (List Bool → ℕ) → List Store → List Call → History × Middle
whole_run pick bank queue = run_from pick queue (accepted (opened_over bank).0) (opened_over bank).1

-- every bank of stores as every store is, every way to pick places, every queue
abbrev pub EveryQueue : Type 0
EveryQueue =
    (pick : List Bool → ℕ) → Picks pick → (bank : List Store) → LawfulBank bank → (queue : List Call) →
    Promised bank queue (opened_over bank).0 (whole_run pick bank queue).0 (bank_of (whole_run pick bank queue).1)

-- the law of the plain board alone
abbrev pub PlainQueue : Type 0
PlainQueue =
    (start : Board) (K : ℕ) (queue : List Call) → length start ≡ 128 →
    Law start K (run queue [] (just_opened start K)).0 (run queue [] (just_opened start K)).1.boards
