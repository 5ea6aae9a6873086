-- What a call of the middleware promises.
use Rattle.std.specs.Prelude.{◌≡◌, ℕ, List, [], ◌∷◌, Some, None, Ok, Err, Option, Result}
use Rattle.tickets.specs.Boards.{Board}
use Rattle.calls.specs.declared.call.Call.{Call}
use Rattle.law.specs.History.{Answer, History}
use Rattle.law.specs.Opening.{PlainBoard, board_step, board_open}
use Rattle.stores.specs.Model.{StoreModel}
use Rattle.machine.specs.Machine.{Machine}
use Rattle.refinement.specs.Places.{PlaceWasShut}
use Rattle.middleware.specs.declared.answer.Answer.{Answer as Answer'}
use Rattle.middleware.specs.declared.fault.Asked.{Asked}
use Rattle.middleware.specs.declared.fault.Asked.TheVariants.{Queued}
use Rattle.middleware.specs.declared.fault.BoardFault.{BoardFault}
use Rattle.middleware.specs.Listing.{refusal_in}
use Rattle.refinement.specs.Stores.{law_bank}
use Rattle.refinement.specs.Worlds.{plain_of}
use Rattle.refinement.specs.Sound.{Sound, Follows}
use Rattle.refinement.specs.Promise.{Ran}

-- over a sound middleware: the plain board's answer, the plain board after it, and sound again
abbrev pub Serves : Call → Machine → Answer → Machine → Type 0
Serves c before a after = Sound before → Follows (board_step c (plain_of before)) a after

-- a call that changes nothing: the plain board's answer
abbrev pub Tells : Call → Machine → Answer → Type 0
Tells c m a = Sound m → a ≡ (board_step c (plain_of m)).0

-- a refusal carries what was asked
abbrev pub Names : {A : Type 0} → Asked → Result A BoardFault → Type 0
Names what (Ok a) = Unit {0}
Names what (Err f) = f.asked ≡ what

-- a refusal, where there is one, carries what was asked
abbrev pub Asks : Asked → Option BoardFault → Type 0
Asks what None = Unit {0}
Asks what (Some f) = f.asked ≡ what

-- a refusal that stands in a queue carries its call
abbrev pub Carries : Call → Answer' → Type 0
Carries c a = Asks (Queued c) (refusal_in a)

-- so does every refusal among the answers of a queue
unfoldable pub AllCarry : List Call → List Answer' → Type 0
AllCarry [] as' = Unit {0}
AllCarry (c ∷ cs) [] = Unit {0}
AllCarry (c ∷ cs) (a ∷ as') = Carries c a × AllCarry cs as'

-- which place a transaction gets is free: it is one that was not open at its home
abbrev pub GetsShutPlace : Machine → ℕ → Result ℕ BoardFault → Machine → Type 0
GetsShutPlace before k r after = (t : ℕ) → r ≡ Ok t → PlaceWasShut before k t after

-- a board just made over a bank with these stores
pub record Made (ms : List StoreModel) (m : Machine) : Type 0 where
  pub stores : m.stores ≡ ms
  pub plain : plain_of m ≡ PlainBoard.unopened
  pub sound : Sound m

-- open: over a sound middleware the plain board's answer, the plain board after it, sound again; and the bank stays, whatever is answered
pub record Opens (before : Machine) (a : Answer) (after : Machine) : Type 0 where
  pub follows : Sound before → Follows (board_open (law_bank before.stores) (plain_of before)) a after
  pub bank : after.stores ≡ before.stores

-- a queue on an opened middleware: where it came from an accepted opening with no call yet, it has run the queue, with this history
abbrev pub RunsOn : Machine → List Call → History → Machine → Type 0
RunsOn before queue h after = (start : Board) (K : ℕ) → Ran start K [] [] before → Ran start K queue h after
