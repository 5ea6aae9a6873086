use Rattle.std.proofs.Common.{◌≡◌, ◌-◌}
use Rattle.machine.specs.Applying.{drained}
use Rattle.engine.specs.Seen.{seen}
use Rattle.engine.proofs.engine.Engine.drain_at.Given as goal

-- what the rest of the turns comes to from here is what all of them come to from the start
abbrev pub invariant-loop-made : goal.invariant-loop-made
invariant-loop-made g l = drained l.replica l.m 0 (seen g.B.Bank.stores l.initial.self) ≡ drained l.replica (l.m - l.made) l.made (seen g.B.Bank.stores l.self)
