use Rattle.std.proofs.Common.{drop, map}
use Rattle.std.specs.List.{flat_map}
use Rattle.tickets.specs.Meaning.{pair_of}
use Rattle.record_format.specs.Written.{pair_bytes}
use Rattle.record_format.proofs.Writing.{Writing}
use Rattle.record_writer.specs.Pens.{SameBuffer}
use Rattle.record_writer.proofs.pen.Pen.put_pairs.Given as goal

abbrev pub invariant-loop-pair : goal.invariant-loop-pair
invariant-loop-pair l =
    Writing l.initial.self.buffer.now l.initial.self.at (flat_map pair_bytes (map pair_of l.pair-items)) (flat_map pair_bytes (map pair_of (drop l.pair-index l.pair-items))) l.self.buffer.now l.self.at
    × SameBuffer l.initial.self l.self
