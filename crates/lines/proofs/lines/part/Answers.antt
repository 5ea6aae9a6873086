use Rattle.std.proofs.Common.{◌<◌, length, ap, ◌∙◌, arith, true-eqb, false-eqb}
use Rattle.lines.specs.Fronts.{inside}
use Rattle.lines.proofs.Fronts.{take_while_is_front}
use Rattle.lines.proofs.Scripts.{parting_a_line_off, behind_the_end, no_bytes_are_no_lines}
use Rattle.lines.proofs.lines.part.Goals as goal

pub returns-then-is_empty : goal.returns-then-is_empty
returns-then-is_empty c = record { answer = no_bytes_are_no_lines c.args.script.now (true-eqb _ 0 c.if-is_empty.ensures) }

pub returns : goal.returns
returns c =
    let s = c.args.script.now in
    let (line, behind) = c.split_at.result in
    let some : 0 < length s = omega (arith, false-eqb _ 0 c.if-is_empty.ensures) in
    let long = c.line_length.ensures ∙ ap length (take_while_is_front inside s) in
    let rest = ap (λ l. l.now) c.unwrap_or.ensures ∙ behind_the_end behind c.get.result c.get.ensures.lookup.0 in
    record { answer = parting_a_line_off s line.now behind.now c.unwrap_or.result.now c.line_length.result some long c.split_at.ensures.front c.split_at.ensures.back rest }
