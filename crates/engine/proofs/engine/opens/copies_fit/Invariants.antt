use Rattle.std.proofs.Common.{◌≡◌, drop}
use Rattle.machine.specs.Opening.{copies_fit}
use Rattle.engine.proofs.engine.opens.copies_fit.Given as goal

-- what is left of the copies decides as all of them do
abbrev pub invariant-loop-replica : goal.invariant-loop-replica
invariant-loop-replica g l =
    let ms = g.B.Bank.stores l.bank in
    copies_fit l.start l.replica (drop l.replica ms) ≡ copies_fit l.start 0 ms
