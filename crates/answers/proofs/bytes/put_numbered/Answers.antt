use Rattle.std.proofs.Common.{arith}
use Rattle.answers.proofs.Writing.{one_write_before_another}
use Rattle.answers.proofs.bytes.put_numbered.Goals as goal

pub returns : goal.returns
returns c = record { bytes = one_write_before_another (omega arith) c.put_decimal-middle.ensures.bytes c.put.ensures.bytes }
