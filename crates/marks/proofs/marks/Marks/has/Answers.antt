-- The words answer for the set.
use Rattle.std.proofs.Common.{sym, ap, ◌∙◌, arith}
use Rattle.marks.proofs.Laws.{in_its_words}
use Rattle.marks.proofs.marks.Marks.has.Goals as goal

pub returns : goal.returns
returns c = record { answer = c.has.ensures.answer ∙ ap (λ f. f c.args.object) (sym (in_its_words c.args.self.now (omega arith))) }
