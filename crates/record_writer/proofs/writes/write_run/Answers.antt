use Rattle.std.proofs.Common.{rules}
use Rattle.record_format.proofs.Records.{recorded}
use Rattle.record_writer.proofs.writes.write_run.Goals as goal

pub returns : goal.returns
returns g c =
    let r = recorded (g.R.NumberedSets.items c.args.run.now) c.in_ok-needed.needed c.in_ok-needed.ensures.answer c.if-buffer-needed.false c.put_record.ensures.bytes in
    let bytes = r.bytes in
    let back = r.reads_back in
    record { answer = r.answer; bytes = search rules; reads_back = search rules }
