use Rattle.std.proofs.Common.{◌≡◌, map, drop}
use Rattle.tickets.specs.WriteSets.{play}
use Rattle.tickets.specs.Meaning.{pair_of, values}
use Rattle.tickets.proofs.write_set.WriteSet.play.Given as goal

-- what is left gives the whole
abbrev pub invariant-loop-pair : goal.invariant-loop-pair
invariant-loop-pair l = play (drop l.pair-index (map pair_of l.pair-items)) (values l.board) ≡ play (map pair_of l.pair-items) (values l.initial.board)
