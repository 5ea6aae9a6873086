use Rattle.std.proofs.Common.{arith}
use Rattle.record_format.proofs.Numbering.{placed}
use Rattle.record_format.proofs.Verdicts.{bytes_by}
use Rattle.record_reader.proofs.reader.Reader.body.Goals as goal

pub slice_bounds-result-end : goal.slice_bounds-result-end
slice_bounds-result-end c =
    let p = placed c.args.self.now.bytes.now c.args.n _ _ c.in_ok-span.ensures.answer in
    omega (arith, p.room, c.in_ok-span.ensures.in_order)

pub returns-clause-answer : goal.returns-clause-answer
returns-clause-answer c =
    let bs = c.args.self.now.bytes.now in
    let p = placed bs c.args.n _ _ c.in_ok-span.ensures.answer in
    p.body_is (bytes_by bs c.args.self.now.small)
