use Rattle.std.proofs.Common.{◌≡◌, ◌-◌, ◌++◌, length, take, drop, ap, ◌∙◌, arith}
use Rattle.std.proofs.lemmas.List.{drop-drop}
use Rattle.answers.proofs.bytes.put.Goals as goal

pub returns : goal.returns
returns c =
    let xs = c.args.bytes.now in
    let b = c.args.buf.now in
    let at = c.args.end - length xs in
    let k : c.args.end - at ≡ length xs = omega arith in
    let e = c.copy_from_slice.ensures.after in
    record {
      bytes = record {
        after = (λ i. take at b ++ (e i ++ drop (k i) (drop at b))) ∙ ap (λ l. take at b ++ (xs ++ l)) (drop-drop (length xs) at b);
        ends = omega arith;
      };
    }
