use Rattle.std.proofs.Common.{map, drop}
use Rattle.tickets.specs.Meaning.{pairs}
use Rattle.record_format.specs.Reading.{pair_in}
use Rattle.record_format.proofs.Accepting.{Gathered}
use Rattle.record_reader.proofs.items.write_set.Given as goal

abbrev pub invariant-loop-pair : goal.invariant-loop-pair
invariant-loop-pair l = Gathered (map pair_in l.pairs) (map pair_in (drop l.pair-index l.others)) (pairs l.set)
