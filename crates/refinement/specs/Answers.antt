-- The machine's answers as the law lists them: per case, its number and its values.
use Rattle.std.specs.Prelude.{ℕ, cond, [], ◌∷◌, Ok, Err, Result}
use Rattle.ledger.specs.declared.progress.Progress.{Progress}
use Rattle.ledger.specs.declared.transaction.TransactionState.{TransactionState}
use Rattle.ledger.specs.declared.verdict.Verdict.{Verdict}
use Rattle.ledger.specs.declared.verdict.Verdict.TheVariants.{ReadOnly, Numbered, Clash}
use Rattle.ledger.specs.Sets.{SetModel}
use Rattle.machine.specs.declared.reason.Reason.{Reason}
use Rattle.machine.specs.Reasons.{listed, from_store}
use Rattle.law.specs.History.{Answer}
use Rattle.law.specs.History.Answer.{told, values, read_only, aborts, refused, fault}
use Rattle.law.specs.Numbers.{flag}
use Rattle.law.specs.Steps.{set_values}
use Rattle.law.specs.WorldSteps.{phase_values}
use Rattle.refinement.specs.Worlds.{phase_of, numbered_of}

-- a store's fault, or any other refusal
abbrev pub refusal : Reason → Answer
refusal e = cond (from_store e) (fault (listed e).0) (refused (listed e).0 (listed e).1)

-- an answer that is listed by f, or the refusal
abbrev pub answered : {A : Type 0} → (A → Answer) → Result A Reason → Answer
answered f (Ok a) = f a
answered f (Err e) = refusal e

-- nothing is told
abbrev pub quiet : Unit {0} → Answer
quiet u = Answer.done

-- read-only, the number given, or the number that clashes
abbrev pub verdict_listed : Verdict → Answer
verdict_listed ReadOnly = read_only
verdict_listed (Numbered n) = told n
verdict_listed (Clash n) = aborts n

-- s, and the state by its number
abbrev pub state_listed : TransactionState × ℕ → Answer
state_listed x = values (x.1 ∷ phase_values (phase_of x.0))

-- home, s, and the pairs
abbrev pub set_listed : SetModel → Answer
set_listed x = values (set_values (numbered_of x))

-- how many are applied, and whether without holes
abbrev pub progress_listed : Progress → Answer
progress_listed q = values (q.applied ∷ flag q.whole ∷ [])
