-- The middleware before and after its opening: what it keeps, and what its calls promise.
use Rattle.std.specs.Prelude.{◌≡◌, ℕ, Bool, false, cond, List, []}
use Rattle.calls.specs.declared.call.Call.{Call}
use Rattle.law.specs.History.{Answer, accepted}
use Rattle.law.specs.History.Answer.{refused}
use Rattle.law.specs.Store.{Store}
use Rattle.law.specs.Opening.{LawfulBank, start_of, opening, PlainBoard, board_open, board_step}
use Rattle.law.specs.World.{World, Picks, world_plain}
use Rattle.law.specs.WorldSteps.{world_step}
use Rattle.law.specs.Coupled.{Coupled}

-- a middleware, with what it keeps and its bank
pub data Middle : Type 0 where
  unopened : World → Middle
  opened : World → Middle

-- the stores that it owns
abbrev pub bank_of : Middle → List Store
bank_of (Middle.unopened w) = w.bank
bank_of (Middle.opened w) = w.bank

-- the plain board that a middleware is
abbrev pub plain_of : Middle → PlainBoard
plain_of (Middle.unopened w) = PlainBoard.unopened
plain_of (Middle.opened w) = PlainBoard.opened (world_plain w)

-- a new middleware over a bank
abbrev pub new_world : List Store → World
new_world bank = record { start = []; sets = []; applied = λ _ _. false; entries = []; bank = bank }

-- replica 0's board becomes the starting board
abbrev pub with_start : World → World
with_start w = record { start = start_of w.bank; sets = w.sets; applied = w.applied; entries = w.entries; bank = w.bank }

-- open: 21 where it is opened already; it changes no store
abbrev pub middle_open : Middle → Answer × Middle
middle_open (Middle.unopened w) = (opening w.bank, cond (accepted (opening w.bank)) (Middle.opened (with_start w)) (Middle.unopened w))
middle_open (Middle.opened w) = (refused 21 [], Middle.opened w)

-- any other call: 20 where it is not opened
abbrev pub middle_step : (List Bool → ℕ) → Call → Middle → Answer × Middle
middle_step pick c (Middle.unopened w) = (refused 20 [], Middle.unopened w)
middle_step pick c (Middle.opened w) = ((world_step pick c w).0, Middle.opened (world_step pick c w).1)

-- not opened yet: no transactions, nothing numbered, and stores as every store is
pub record Unused (w : World) : Type 0 where
  pub sets : w.sets ≡ []
  pub applied : (k n : ℕ) → w.applied k n ≡ false
  pub entries : w.entries ≡ []
  pub lawful : LawfulBank w.bank

-- what a middleware keeps, from its making on
abbrev pub Sound : Middle → Type 0
Sound (Middle.unopened w) = Unused w
Sound (Middle.opened w) = Coupled w

-- an answer a, and the middleware m after it, are what the plain board comes to
pub record Follows (o : Answer × PlainBoard) (a : Answer) (m : Middle) : Type 0 where
  pub answer : a ≡ o.0
  pub after : plain_of m ≡ o.1
  pub sound : Sound m

-- a new middleware over stores as every store is
abbrev pub EveryMaking : Type 0
EveryMaking = (bank : List Store) → LawfulBank bank → Sound (Middle.unopened (new_world bank))

-- opening a sound middleware: the plain board's answer, the plain board after it, sound again, and the bank as it was
abbrev pub EveryOpening : Type 0
EveryOpening = (m : Middle) → Sound m → Follows (board_open (bank_of m) (plain_of m)) (middle_open m).0 (middle_open m).1 × (bank_of (middle_open m).1 ≡ bank_of m)

-- every call of a sound middleware, whichever places it picks
abbrev pub EveryCall : Type 0
EveryCall = (pick : List Bool → ℕ) → Picks pick → (c : Call) (m : Middle) → Sound m → Follows (board_step c (plain_of m)) (middle_step pick c m).0 (middle_step pick c m).1
