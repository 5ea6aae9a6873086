use Rattle.std.proofs.Common.{◌≡◌, ◌+◌, ◌-◌, Some, sym, ap, ◌∙◌, arith}
use Rattle.record_format.proofs.Numbering.{whole, no_span_past, span_found}
use Rattle.record_format.proofs.Verdicts.{counted}
use Rattle.record_reader.proofs.reader.Reader.span.Goals as goal

pub returns-then-n-lt1-clause-answer : goal.returns-then-n-lt1-clause-answer
returns-then-n-lt1-clause-answer c = no_span_past c.args.self.now.bytes.now c.args.n c.in-Ok.count (counted _ _ (sym c.args.self.now.found ∙ c.in-Ok.is)) c.then-n-lt1.either

pub entry_of-entry-requires-clause-n_in_bounds : goal.entry_of-entry-requires-clause-n_in_bounds
entry_of-entry-requires-clause-n_in_bounds c =
    let w = whole c.args.self.now.bytes.now c.in-Ok.count (counted _ _ (sym c.args.self.now.found ∙ c.in-Ok.is)) in
    omega (arith, w.long, c.if-n-count.false)

pub returns-clause-answer : goal.returns-clause-answer
returns-clause-answer c =
    let e = c.entry_of-entry.result in
    let long : e.offset + e.size - e.offset ≡ e.size = omega arith in
    ap (λ k. Some (e.offset, k)) long
    ∙ span_found c.args.self.now.bytes.now c.args.n c.in-Ok.count (counted _ _ (sym c.args.self.now.found ∙ c.in-Ok.is)) c.if-n-lt1.false c.if-n-count.false c.entry_of-entry.ensures.answer
