use Rattle.std.proofs.Common.{◌+◌, drop, ap, ◌∙◌, arith}
use Rattle.tickets.specs.Boards.{Board}
use Rattle.tickets.specs.Meaning.{values}
use Rattle.record_format.specs.Items.{play_all}
use Rattle.record_format.specs.Reading.{decoded, items_in}
use Rattle.record_format.specs.Calls.{check_answer}
use Rattle.record_format.specs.Meaning.{item_of}
use Rattle.record_format.proofs.Verdicts.{items_counted}
use Rattle.record_format.proofs.Whole.{same_record, never_none, play_next, all_played}
use Rattle.record.proofs.reads.play.Goals as goal
use Rattle.record.proofs.reads.play.Goals.{in-Some, in_default}

pub loop-i-preserved : goal.loop-i-preserved
loop-i-preserved c =
    let bs = c.args.bytes.now in
    let i = c.loop-i.i in
    let same = c.new-reader.ensures.answer in
    elim c.match-item.branch [
      | in-Some w ↦
          ap (λ (b : Board). play_all (drop (i + 1) (items_in bs)) b) (ap values w.board-is ∙ w.play.ensures.after)
          ∙ play_next (items_in bs) i (item_of w.in-Some.item) (values c.loop-i.board) _ (same_record i _ (omega arith) same w.in-Some.ensures.answer) c.loop-i.invariant
      | in_default w ↦ absurd (never_none i _ (omega arith) same w.in_default.ensures.answer (items_counted (decoded bs) _ (c.in_ok-count.ensures.answer ∙ ap check_answer same)) c.loop-i-test.true)
    ]

pub returns : goal.returns
returns c =
    let bs = c.args.bytes.now in
    let count = c.in_ok-count.ensures.answer ∙ ap check_answer c.new-reader.ensures.answer in
    let n = items_counted (decoded bs) c.in_ok-count.count count in
    record {
      answer = count;
      after = all_played (items_in bs) c.loop-i.i (values c.loop-i.board) _ (omega arith) c.loop-i.invariant;
    }
