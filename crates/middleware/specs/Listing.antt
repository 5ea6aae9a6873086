-- The code's answers and refusals, listed: per case, its number and its values.
use Rattle.std.specs.Prelude.{List, [], ◌∷◌, Some, None, Ok, Err, Option, Result}
use Rattle.calls.specs.declared.call.Call.{Call}
use Rattle.ledger.specs.Sets.{SetModel, set_of}
use Rattle.ledger.specs.declared.numbered.Numbered.{Numbered}
use Rattle.law.specs.History as law
use Rattle.law.specs.History.{History}
use Rattle.law.specs.History.Answer.{done, told, read_only, aborts}
use Rattle.law.specs.History.Event.{event}
use Rattle.refinement.specs.Answers.{refusal, state_listed, set_listed, progress_listed}
use Rattle.middleware.specs.declared.answer.Answer.{Answer}
use Rattle.middleware.specs.declared.answer.Answer.TheVariants.{Done, Number, ReadOnly, Abort, State, WriteSet, Applied, Refused}
use Rattle.machine.specs.declared.reason.Reason.{Reason}
use Rattle.middleware.specs.declared.fault.Asked.{Asked}
use Rattle.middleware.specs.declared.fault.Asked.TheVariants.{Queued}
use Rattle.middleware.specs.declared.fault.BoardFault.{BoardFault}

-- a refusal by its reason: the call that it carries beside it is for whoever reads it
abbrev pub fault_listed : BoardFault → law.Answer
fault_listed f = refusal f.reason

abbrev pub listed : Answer → law.Answer
listed Done = done
listed (Number n) = told n
listed ReadOnly = read_only
listed (Abort n) = aborts n
listed (State x s) = state_listed (x, s)
listed (WriteSet w) = set_listed (set_of w)
listed (Applied q) = progress_listed q
listed (Refused f) = fault_listed f

-- what a call answered, where f lists what it tells
abbrev pub result_listed : {A : Type 0} → (A → law.Answer) → Result A BoardFault → law.Answer
result_listed f (Ok a) = f a
result_listed f (Err e) = fault_listed e

-- the refusal that an answer in a queue is, if it is one
abbrev pub refusal_in : Answer → Option BoardFault
refusal_in Done = None
refusal_in (Number n) = None
refusal_in ReadOnly = None
refusal_in (Abort n) = None
refusal_in (State x s) = None
refusal_in (WriteSet w) = None
refusal_in (Applied q) = None
refusal_in (Refused f) = Some f

-- the refusal that a call answered, if it is one
abbrev pub refusal_of : {A : Type 0} → Result A BoardFault → Option BoardFault
refusal_of (Ok a) = None
refusal_of (Err f) = Some f

-- a refusal with what was asked beside it
abbrev pub asked_to : {A : Type 0} → Asked → Result A Reason → Result A BoardFault
asked_to what (Ok a) = Ok a
asked_to what (Err e) = Err (record { asked = what; reason = e })

abbrev pub asked_as : {A : Type 0} → Call → Result A Reason → Result A BoardFault
asked_as c r = asked_to (Queued c) r

-- a numbered write set that is answered, by all that is held of it
abbrev pub set_held : Result Numbered BoardFault → Result SetModel BoardFault
set_held (Ok w) = Ok (set_of w)
set_held (Err f) = Err f

-- the calls with their answers, behind what came before; the newest stands in front
unfoldable pub past : List Call → List Answer → History → History
past [] as' h = h
past (c ∷ cs) [] h = h
past (c ∷ cs) (a ∷ as') h = past cs as' (event c (listed a) ∷ h)
