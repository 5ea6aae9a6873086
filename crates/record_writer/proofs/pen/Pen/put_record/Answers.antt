use Rattle.std.proofs.Common.{◌-◌, length, ap, ◌∙◌, arith}
use Rattle.record_format.specs.Written.{two}
use Rattle.record_format.proofs.Writing.{wrote_same}
use Rattle.record_format.proofs.Records.{fitting, parts_written}
use Rattle.record_writer.proofs.pen.Pen.put_record.Goals as goal

pub put_contents-requires-clause-run_in_bounds : goal.put_contents-requires-clause-run_in_bounds
put_contents-requires-clause-run_in_bounds g c =
    let its = g.R.NumberedSets.items c.args.run.now in
    let p = c.args.self.now in
    let f = fitting its (length p.buffer.now - p.at) c.requires.run (omega (arith, c.requires.run_in_bounds)) in
    let long = ap length c.to_be_bytes.ensures in
    omega (arith, f.contents_fit, c.requires.run_in_bounds, c.put.ensures.bytes.ends, c.put.ensures.same_buffer.1)

pub put_contents-requires-clause-run_bound : goal.put_contents-requires-clause-run_bound
put_contents-requires-clause-run_bound g c =
    let p = c.args.self.now in
    let f = fitting (g.R.NumberedSets.items c.args.run.now) (length p.buffer.now - p.at) c.requires.run (omega (arith, c.requires.run_in_bounds)) in
    f.offsets_fit

pub returns-clause-bytes : goal.returns-clause-bytes
returns-clause-bytes g c =
    let head = wrote_same (c.to_be_bytes.ensures ∙ ap two c.count.ensures.answer) c.put.ensures.bytes in
    parts_written (g.R.NumberedSets.items c.args.run.now) c.requires.run c.requires.run_in_bounds head c.put_contents.ensures.bytes c.put_bodies.ensures.bytes
