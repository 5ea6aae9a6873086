-- The text of an answer of the board, as a program prints it.
use Rattle.std.specs.Prelude.{ℕ, List, ◌++◌, Some, None, Option, codes, decimal}
use Rattle.middleware.specs.declared.answer.Answer.{Answer}
use Rattle.middleware.specs.declared.answer.Answer.TheVariants.{Done, Number, ReadOnly, Abort, State, WriteSet, Applied, Refused}

-- a refusal prints its reason as its derive does, which states no text
abbrev pub answer_text : Answer → Option (List ℕ)
answer_text Done = Some (codes "ok")
answer_text (Number n) = Some (decimal n)
answer_text ReadOnly = Some (codes "read-only")
answer_text (Abort n) = Some (codes "abort " ++ decimal n)
answer_text (State x s) = Some (codes "its snapshot has seen " ++ decimal s)
answer_text (WriteSet w) = Some (codes "a write set")
answer_text (Applied q) = Some (decimal q.applied ++ codes " applied")
answer_text (Refused f) = None
