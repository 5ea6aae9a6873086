-- What the machine does at each call: its answer, listed, and the machine after it.
use Rattle.calls.specs.declared.call.Call.{Call}
use Rattle.calls.specs.declared.call.Call.TheVariants.{Begin, Read, Write, Commit, GiveUp, Apply, Drain, Value, State, WriteSet, Applied}
use Rattle.machine.specs.Machine.{Machine, Came}
use Rattle.machine.specs.Opening.{opening}
use Rattle.machine.specs.Beginning.{beginning}
use Rattle.machine.specs.Working.{reading, writing, giving_up}
use Rattle.machine.specs.Committing.{committing}
use Rattle.machine.specs.Applying.{applying, draining}
use Rattle.machine.specs.Questions.{value_told, state_told, set_told, progress_told}
use Rattle.law.specs.History.{Answer}
use Rattle.law.specs.History.Answer.{told}
use Rattle.refinement.specs.Answers.{answered, quiet, verdict_listed, state_listed, set_listed, progress_listed}

-- what a call came to, its answer listed by f
abbrev pub came : {A : Type 0} → (A → Answer) → Came A → Answer × Machine
came f o = (answered f o.answer, o.after)

-- open
abbrev pub machine_open : Machine → Answer × Machine
machine_open b = came quiet (opening b)

-- every other call; the questions leave the machine as it is
abbrev pub machine_step : Call → Machine → Answer × Machine
machine_step (Begin k) b = came told (beginning b k)
machine_step (Read t j) b = (answered told (reading b t j), b)
machine_step (Write t j v) b = came quiet (writing b t j v)
machine_step (Commit t) b = came verdict_listed (committing b t)
machine_step (GiveUp t) b = came quiet (giving_up b t)
machine_step (Apply k n) b = came quiet (applying b k n)
machine_step (Drain k m) b = came told (draining b k m)
machine_step (Value k j) b = (answered told (value_told b k j), b)
machine_step (State t) b = (answered state_listed (state_told b t), b)
machine_step (WriteSet n) b = (answered set_listed (set_told b n), b)
machine_step (Applied k) b = (answered progress_listed (progress_told b k), b)
