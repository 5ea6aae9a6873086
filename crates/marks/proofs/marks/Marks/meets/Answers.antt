-- The words answer for the set.
use Rattle.std.proofs.Common.{◌≡◌, ◌*◌, length, sym, ◌∙◌, arith}
use Rattle.marks.specs.Marked.{both, any_below}
use Rattle.marks.proofs.Laws.{in_its_words}
use Rattle.marks.proofs.marks.Marks.meets.Goals as goal

pub returns : goal.returns
returns c =
    let a = c.args.self.now in
    let b = c.args.other.now in
    let objects : 64 * length a.words ≡ 128 = omega arith in
    record { answer = c.meet.ensures.answer ∙ (λ i. any_below (both (sym (in_its_words a (omega arith)) i) (sym (in_its_words b (omega arith)) i)) (objects i)) }
