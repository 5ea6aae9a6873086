-- The words answer for the set.
use Rattle.std.proofs.Common.{◌≡◌, ◌*◌, true, length, sym, ◌∙◌, arith}
use Rattle.marks.specs.Marked.{with_mark}
use Rattle.marks.proofs.Laws.{in_its_words}
use Rattle.marks.proofs.marks.Marks.mark.Goals as goal

pub returns : goal.returns
returns c =
    let m = c.args.self.now in
    let objects : 64 * length m.words ≡ 128 = omega arith in
    record {
      after =
          in_its_words _ (omega arith) ∙ c.put.ensures.after
          ∙ (λ i. with_mark (objects i) c.args.object true (sym (in_its_words m (omega arith)) i));
    }
