-- The refusals of a script: each one's number, the values that it names, and how it is printed.
use Rattle.std.specs.Prelude.{ℕ, List, [], ◌∷◌}
use Rattle.answers.specs.declared.answer.Printed.{Printed}
use Rattle.answers.specs.declared.answer.Printed.TheVariants.{No}
use Rattle.machine.specs.Reasons as reasons
use Rattle.middleware.specs.declared.fault.BoardFault.{BoardFault}
use Rattle.script.specs.declared.fault.ScriptFault.{ScriptFault}
use Rattle.script.specs.declared.fault.ScriptFault.TheVariants.{NotUnderstood, Board}
use Rattle.script.specs.declared.fault.Unfit.{Unfit}
use Rattle.script.specs.declared.fault.Unfit.TheVariants.{TooLong, BufferShort}

-- the number of a refusal of the board
abbrev pub board_number : BoardFault → ℕ
board_number f = (reasons.listed f.reason).0

-- a script that is too long names line 0, and a buffer that is too short the length needed
abbrev pub unfit_listed : Unfit → ℕ × List ℕ
unfit_listed TooLong = (7, 0 ∷ [])
unfit_listed (BufferShort needed) = (9, needed ∷ [])

-- a line that is refused keeps the board's number, and names the line
abbrev pub listed : ScriptFault → ℕ × ℕ
listed (NotUnderstood line) = (7, line)
listed (Board line fault) = (board_number fault, line)

-- it is printed by its number and its line
abbrev pub refusal : ScriptFault → Printed
refusal f = No (listed f).0 (listed f).1
