-- A refused call leaves the machine, and what its stores mean, as they were.
use Rattle.std.specs.Prelude.{◌≡◌, false}
use Rattle.calls.specs.declared.call.Call.{Call}
use Rattle.machine.specs.Machine.{Machine}
use Rattle.law.specs.History.{Answer, accepted, is_fault}
use Rattle.refinement.specs.Steps.{machine_open, machine_step}
use Rattle.refinement.specs.Sound.{Sound}

-- where the answer is a refusal, the machine after it is the machine before it
abbrev pub Unmoved : Machine → Answer → Machine → Type 0
Unmoved before a after = accepted a ≡ false → after ≡ before

-- a refusal leaves a sound machine as it was; it leaves any other so too, unless a store's fault is the answer
pub record Stays (before : Machine) (a : Answer) (after : Machine) : Type 0 where
  pub sound : Sound before → Unmoved before a after
  pub faultless : is_fault a ≡ false → Unmoved before a after

-- every opening that is refused, of any machine
abbrev pub EveryOpeningStays : Type 0
EveryOpeningStays = (b : Machine) → Unmoved b (machine_open b).0 (machine_open b).1

-- every call that is refused
abbrev pub EveryRefusalStays : Type 0
EveryRefusalStays = (c : Call) (b : Machine) → Stays b (machine_step c b).0 (machine_step c b).1
