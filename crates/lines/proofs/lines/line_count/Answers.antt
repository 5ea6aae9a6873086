use Rattle.std.proofs.Common.{length, ap, ◌∙◌, inl, arith}
use Rattle.lines.proofs.Handing.{counting_the_lines}
use Rattle.lines.proofs.Scripts.{no_more_lines_than_bytes}
use Rattle.lines.proofs.lines.line_count.Goals as goal

pub count-requires : goal.count-requires
count-requires c = record { can = tt; finite = tt; fits = inl (omega (arith, ap length c.new.ensures.answer, no_more_lines_than_bytes c.args.script.now)) }

pub returns : goal.returns
returns c = record { answer = counting_the_lines c.new.result c.count.result c.count.ensures.runs ∙ ap length c.new.ensures.answer }
