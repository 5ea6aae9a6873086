-- Answers, and the history of a queue: its calls with their answers.
use Rattle.std.specs.Prelude.{ℕ, Bool, true, false, List, [], ◌∷◌, Some, None, Option}
use Rattle.calls.specs.declared.call.Call.{Call}

-- done; a number is told; several are; a commit without writes; an abort, with the number of the write set that caused it;
-- a refusal, by its number and the values that it names; a store's fault, by its number
pub data Answer : Type 0 where
  done : Answer
  told : ℕ → Answer
  values : List ℕ → Answer
  read_only : Answer
  aborts : ℕ → Answer
  refused : ℕ → List ℕ → Answer
  fault : ℕ → Answer

-- a call is accepted where it is not refused
abbrev pub accepted : Answer → Bool
accepted done = true
accepted (told n) = true
accepted (values vs) = true
accepted read_only = true
accepted (aborts n) = true
accepted (refused n vs) = false
accepted (fault n) = false

-- the number that is told, if one is
abbrev pub number_told : Answer → Option ℕ
number_told done = None
number_told (told n) = Some n
number_told (values vs) = None
number_told read_only = None
number_told (aborts n) = None
number_told (refused n vs) = None
number_told (fault n) = None

-- a store's fault
abbrev pub is_fault : Answer → Bool
is_fault done = false
is_fault (told n) = false
is_fault (values vs) = false
is_fault read_only = false
is_fault (aborts n) = false
is_fault (refused n vs) = false
is_fault (fault n) = true

pub data Event : Type 0 where
  event : Call → Answer → Event

-- the newest event stands in front
abbrev pub History : Type 0
History = List Event

-- a queue run on any machine, whose step gives an answer and what the machine comes to: each call finds it as the one ahead left it
unfoldable pub run_of : {X : Type 0} → (Call → X → Answer × X) → List Call → History → X → History × X
run_of step [] h x = (h, x)
run_of step (c ∷ cs) h x = run_of step cs (event c (step c x).0 ∷ h) (step c x).1
