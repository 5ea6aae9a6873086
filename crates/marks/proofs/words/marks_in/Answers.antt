-- A word has as many ones as bits that are set.
use Rattle.std.proofs.Common.{arith}
use Rattle.marks.proofs.Bits.{ones_are_bits}
use Rattle.marks.proofs.words.marks_in.Goals as goal

pub returns : goal.returns
returns c = ones_are_bits c.args.word 64 (omega arith)
