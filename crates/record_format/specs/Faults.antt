-- Each refusal by its number, where it has one, and the values that it names.
use Rattle.std.specs.Prelude.{ℕ, List, [], ◌∷◌, Some, None, Ok, Err, Option, Result}
use Rattle.record_format.specs.declared.fault.RecordFault.{RecordFault}
use Rattle.record_format.specs.declared.fault.RecordFault.TheVariants.{Malformed, BufferShort, NoRun, NoMemory}

abbrev pub Refusal : Type 0
Refusal = Option ℕ × List ℕ

abbrev pub refusal_of : RecordFault → Refusal
refusal_of (Malformed item) = (Some 8, item ∷ [])
refusal_of (BufferShort needed) = (Some 9, needed ∷ [])
refusal_of (NoRun item) = (None, item ∷ [])
refusal_of NoMemory = (None, [])

-- an answer, with a refusal by its number and values
abbrev pub listed : {A : Type 0} → Result A RecordFault → Result A Refusal
listed (Ok a) = Ok a
listed (Err e) = Err (refusal_of e)
