use Rattle.std.proofs.Common.{◌≡◌, drop}
use Rattle.tickets.specs.Meaning.{values}
use Rattle.record_format.specs.Items.{play_all}
use Rattle.record_format.specs.Reading.{items_in}
use Rattle.record.proofs.reads.play.Given as goal

abbrev pub invariant-loop-i : goal.invariant-loop-i
invariant-loop-i l = play_all (drop l.i (items_in l.bytes)) (values l.board) ≡ play_all (items_in l.bytes) (values l.initial.board)
