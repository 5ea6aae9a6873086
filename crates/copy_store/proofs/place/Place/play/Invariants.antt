-- What is still to be played, over the board as it is, makes what all makes over the board as it was.
use Rattle.std.proofs.Common.{◌≡◌, ◌<◌}
use Rattle.std.specs.Prelude.{All}
use Rattle.marks.specs.Objects.{objects_left, marked_from}
use Rattle.copy_store.proofs.Plays.{with_values}
use Rattle.copy_store.proofs.place.Place.play.Given as goal

abbrev pub invariant-loop-object : goal.invariant-loop-object
invariant-loop-object l = record {
  can : (goal.iterator-loop-object).can_next l.object-iterator;
  ends : (goal.iterator-loop-object).is_finite l.object-iterator;
  inside : All (λ j. j < 128) (objects_left l.object-iterator);
  same : with_values l.self.own l.board (objects_left l.object-iterator) ≡ with_values l.self.own l.initial.board (marked_from l.self.wrote 0);
}
