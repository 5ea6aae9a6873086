-- The words answer for the set.
use Rattle.std.proofs.Common.{◌≡◌, ◌*◌, length, sym, ◌∙◌, arith}
use Rattle.marks.specs.Marked.{count_below}
use Rattle.marks.proofs.Laws.{in_its_words}
use Rattle.marks.proofs.marks.Marks.count.Goals as goal

pub returns : goal.returns
returns c =
    let m = c.args.self.now in
    let objects : 64 * length m.words ≡ 128 = omega arith in
    record { answer = c.count.ensures.answer ∙ (λ i. count_below (sym (in_its_words m (omega arith)) i) (objects i)) }
