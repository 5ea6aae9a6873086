-- What a line of a script comes to in the code, and what is promised of it.
use Rattle.std.specs.Prelude.{◌≡◌, ℕ, List, Some, None, Ok, Err, Result}
use Rattle.std.specs.Option.{option_map}
use Rattle.lines.specs.Reading.{understood}
use Rattle.answers.specs.declared.answer.Printed as printing
use Rattle.answers.specs.declared.answer.Printed.{Printed}
use Rattle.answers.specs.declared.answer.Printed.TheVariants.{OkNumber, OkRead}
use Rattle.machine.specs.Machine.{Machine}
use Rattle.middleware.specs.declared.answer.Answer.{Answer}
use Rattle.middleware.specs.declared.answer.Answer.TheVariants.{Done, Number, ReadOnly, Abort, State, WriteSet, Applied, Refused}
use Rattle.middleware.specs.declared.fault.Asked.TheVariants.{Queued}
use Rattle.middleware.specs.declared.fault.BoardFault.{BoardFault}
use Rattle.refinement.specs.Sound.{Sound}
use Rattle.refinement.specs.Worlds.{plain_of}
use Rattle.script.specs.declared.fault.ScriptFault.{ScriptFault}
use Rattle.script.specs.declared.fault.ScriptFault.TheVariants.{NotUnderstood, Board}
use Rattle.script.specs.Faults.{refusal}
use Rattle.script.specs.Replies.{line_on}

-- what an accepted answer prints, and a refusal as it came
abbrev pub spoken : Answer → Result Printed BoardFault
spoken Done = Ok printing.TheVariants.Ok
spoken (Number n) = Ok (OkNumber n)
spoken ReadOnly = Ok OkRead
spoken (Abort n) = Ok (printing.TheVariants.Abort n)
spoken (State x s) = Ok printing.TheVariants.Ok
spoken (WriteSet w) = Ok printing.TheVariants.Ok
spoken (Applied q) = Ok printing.TheVariants.Ok
spoken (Refused f) = Err f

-- what is printed of a line's answer
abbrev pub said : Result Printed ScriptFault → Printed
said (Ok p) = p
said (Err f) = refusal f

-- a refusal carries its line, and one of the board's the call that the line spells, whatever the board
abbrev pub Refuses : ℕ → List ℕ → Result Printed ScriptFault → Type 0
Refuses n line (Ok p) = Unit {0}
Refuses n line (Err (NotUnderstood l)) = (l ≡ n) × (understood line ≡ None)
Refuses n line (Err (Board l f)) = (l ≡ n) × (option_map Queued (understood line) ≡ Some f.asked)

-- line n, over a sound board: what the plain board comes to is printed and left, and the board is sound again
pub record Answers (n : ℕ) (line : List ℕ) (m : Machine) (p : Printed) (next : Machine) : Type 0 where
  pub printed : p ≡ (line_on n (understood line) (plain_of m)).0
  pub after : plain_of next ≡ (line_on n (understood line) (plain_of m)).1
  pub sound : Sound next
