use Rattle.std.proofs.Common.{◌≡◌, ◌-◌, ◌≤◌}
use Rattle.tickets.specs.Meaning.{set_pairs}
use Rattle.errands.specs.Own.{pairs_in, some_pairs}
use Rattle.errands.proofs.Told.{GiveWhole}
use Rattle.errands.proofs.gather.gather.Given as goal

-- those told are the write set so far, and with those left they give the whole
abbrev pub invariant-loop-pair : goal.invariant-loop-pair
invariant-loop-pair g l =
    GiveWhole (g.B.Bank.stores l.bank) l.replica l.place l.from (pairs_in (set_pairs l.set))
    × (set_pairs l.set ≡ some_pairs (pairs_in (set_pairs l.set)))
    × (l.from ≤ 128)

abbrev pub decreases-loop-pair : goal.decreases-loop-pair
decreases-loop-pair g l = 128 - l.from
