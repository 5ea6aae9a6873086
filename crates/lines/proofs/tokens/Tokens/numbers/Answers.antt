use Rattle.std.proofs.Common.{◌+◌, ◌-◌, take, sym, ◌∙◌, arith, length-set}
use Rattle.std.specs.Bool.{then_some}
use Rattle.std.proofs.lemmas.List.{take_all}
use Rattle.lines.specs.Tokens.{left_of}
use Rattle.lines.proofs.Numbers.{one_number_more, no_number_there, all_or_none}
use Rattle.lines.proofs.tokens.Tokens.numbers.Goals as goal

pub returns-in_err-n : goal.returns-in_err-n
returns-in_err-n g c =
    let i = c.loop-n.n-index in
    let none = no_number_there (left_of c.loop-n.self) _ (g.row.N - i) (g.row.N - (i + 1)) (omega arith) (take i c.loop-n.n-items) c.in_err-n.ensures.answer c.loop-n.invariant.1 in
    record { answer = c.from_residual.ensures ∙ sym none }

pub loop-n-preserved : goal.loop-n-preserved
loop-n-preserved g c =
    let i = c.loop-n.n-index in
    let (long, so_far) = c.loop-n.invariant in
    let number = c.in_ok-n.ensures in
    (length-set c.loop-n.n-items i _ ∙ long, one_number_more (left_of c.loop-n.self) _ (g.row.N - i) (g.row.N - (i + 1)) (omega arith) (left_of c.number.new.self) c.loop-n.n-items i c.in_ok-n.field-0 (omega arith) number.answer number.after so_far)

pub returns : goal.returns
returns g c =
    let i = c.loop-n.n-index in
    let (long, so_far) = c.loop-n.invariant in
    let found = take_all i c.loop-n.n-items (omega arith) in
    record {
      answer = c.then_some.ensures
          ∙ (λ j. then_some (c.is_done.ensures.answer j) (sym found j))
          ∙ all_or_none (left_of c.loop-n.self) (take i c.loop-n.n-items) _ (g.row.N - i) (omega arith) so_far;
    }
