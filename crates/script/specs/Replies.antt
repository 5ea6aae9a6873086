-- What a script asks of the plain board, and what is printed in answer.
use Rattle.std.specs.Prelude.{ℕ, ◌+◌, List, [], ◌∷◌, ◌++◌, Some, None, Option}
use Rattle.calls.specs.declared.call.Call.{Call}
use Rattle.lines.specs.Reading.{understood}
use Rattle.answers.specs.Printing.{printed}
use Rattle.answers.specs.declared.answer.Printed.{Printed}
use Rattle.answers.specs.declared.answer.Printed.TheVariants.{Ok, OkNumber, OkRead, Abort, No}
use Rattle.law.specs.History.{Answer}
use Rattle.law.specs.History.Answer.{done, told, values, read_only, aborts, refused, fault}
use Rattle.law.specs.Opening.{PlainBoard, board_step}

-- a line that is not understood is no call
abbrev pub asks : Option Call → List Call
asks None = []
asks (Some c) = c ∷ []

-- the calls of a script's lines, in their order
unfoldable pub calls_of : List (List ℕ) → List Call
calls_of [] = []
calls_of (l ∷ ls) = asks (understood l) ++ calls_of ls

-- how the answer to line n is printed; no line asks for several values
abbrev pub reply : ℕ → Answer → Printed
reply n done = Ok
reply n (told v) = OkNumber v
reply n (values vs) = Ok
reply n read_only = OkRead
reply n (aborts m) = Abort m
reply n (refused r vs) = No r n
reply n (fault r) = No r n

-- what line n comes to on the plain board: what is printed, and the board after it
abbrev pub line_on : ℕ → Option Call → PlainBoard → Printed × PlainBoard
line_on n None p = (No 7 n, p)
line_on n (Some c) p = (reply n (board_step c p).0, (board_step c p).1)

-- the bytes printed in answer to the lines from line n on
unfoldable pub text : ℕ → List (List ℕ) → PlainBoard → List ℕ
text n [] p = []
text n (l ∷ ls) p = printed (line_on n (understood l) p).0 ++ text (n + 1) ls (line_on n (understood l) p).1
