use Rattle.std.proofs.Common.{length, ap, arith}
use Rattle.record_format.specs.Meaning.{item_of}
use Rattle.record_format.proofs.Writing.{then, wrote_same}
use Rattle.record_format.proofs.Lengths.{length-body}
use Rattle.record_writer.proofs.pen.Pen.put_body.Goals as goal

pub put_pairs-requires : goal.put_pairs-requires
put_pairs-requires c =
    let two = ap length c.to_be_bytes.ensures in
    omega (arith, c.put.ensures.bytes.ends, length-body (item_of c.args.set.now), c.put.ensures.same_buffer.1, c.requires)

pub returns-clause-bytes : goal.returns-clause-bytes
returns-clause-bytes c = then (omega (arith, length-body (item_of c.args.set.now), c.requires)) (wrote_same c.to_be_bytes.ensures c.put.ensures.bytes) c.put_pairs.ensures.bytes
