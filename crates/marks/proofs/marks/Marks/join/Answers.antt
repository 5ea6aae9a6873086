-- The words answer for the set.
use Rattle.std.proofs.Common.{sym, ◌∙◌, arith}
use Rattle.marks.specs.Marked.{either}
use Rattle.marks.proofs.Laws.{in_its_words}
use Rattle.marks.proofs.marks.Marks.join.Goals as goal

pub returns : goal.returns
returns c =
    let a = c.args.self.now in
    let b = c.args.other.now in
    record { after = in_its_words _ (omega arith) ∙ c.join.ensures.after ∙ (λ i. either (sym (in_its_words a (omega arith)) i) (sym (in_its_words b (omega arith)) i)) }
