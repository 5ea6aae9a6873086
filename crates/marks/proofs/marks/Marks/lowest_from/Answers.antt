-- The words answer for the set.
use Rattle.std.proofs.Common.{◌≡◌, ◌-◌, ◌*◌, length, sym, ◌∙◌, subst, arith}
use Rattle.marks.specs.Marked.{marked, lowest_from, Lowest}
use Rattle.marks.proofs.Laws.{in_its_words, found_within}
use Rattle.marks.proofs.marks.Marks.lowest_from.Goals as goal

pub returns : goal.returns
returns c =
    let m = c.args.self.now in
    let j = c.args.object in
    let objects : 64 * length m.words ≡ 128 = omega arith in
    let words = sym (in_its_words m (omega arith)) in
    let lowest : Lowest (marked m) j c.lowest_from.result = subst (λ f. Lowest f j c.lowest_from.result) words c.lowest_from.ensures.lowest in
    record {
      answer = c.lowest_from.ensures.answer ∙ (λ i. lowest_from (words i) j (objects i - j));
      lowest = lowest;
      within = found_within m j c.lowest_from.result lowest;
    }
