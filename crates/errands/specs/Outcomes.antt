-- The outcome of a call: its answer, and what is left after it.
use Rattle.std.specs.Prelude.{Ok, Err, Result}

-- an answer of type A or a fault of type E, and the state S that is left
pub record Outcome (A E S : Type 0) : Type 0 where
  pub answer : Result A E
  pub after : S

abbrev pub done : {A E S : Type 0} → A → S → Outcome A E S
done a s = record { answer = Ok a; after = s }

abbrev pub refused : {A E S : Type 0} → E → S → Outcome A E S
refused e s = record { answer = Err e; after = s }

-- a look that leaves the state as it is, and what follows it; a refusal ends the call there
abbrev pub look : {A C E S : Type 0} → Result A E → S → (A → Outcome C E S) → Outcome C E S
look (Ok a) s f = f a
look (Err e) s f = refused e s

-- what follows an answer, on the state that was left with it
abbrev pub go_on : {A C E S : Type 0} → Result A E → S → (A → S → Outcome C E S) → Outcome C E S
go_on (Ok a) s f = f a s
go_on (Err e) s f = refused e s

-- a step and what follows it; a refusal ends the call there, with what the step left
abbrev pub step : {A C E S : Type 0} → Outcome A E S → (A → S → Outcome C E S) → Outcome C E S
step o f = go_on o.answer o.after f
