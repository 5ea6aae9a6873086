-- What an answer prints.
use Rattle.std.specs.Prelude.{ℕ, List, [], ◌∷◌, ◌++◌, codes, decimal}
use Rattle.answers.specs.declared.answer.Printed.{Printed}
use Rattle.answers.specs.declared.answer.Printed.TheVariants.{Ok, OkNumber, OkRead, Abort, No}

-- the words of an answer: each number stands in decimal
abbrev pub words : Printed → List ℕ
words Ok = codes "ok"
words (OkNumber n) = codes "ok " ++ decimal n
words OkRead = codes "ok read"
words (Abort n) = codes "abort " ++ decimal n
words (No number line) = (codes "no " ++ decimal number) ++ (codes " " ++ decimal line)

-- each answer ends with byte 10
abbrev pub printed : Printed → List ℕ
printed a = words a ++ 10 ∷ []
