use Rattle.std.proofs.Common.{◌≡◌, ◌<◌, [], ◌∷◌, length, sym, ap, subst, ◌∙◌, rules, arith}
use Rattle.std.specs.Prelude.{All}
use Rattle.marks.specs.Objects.{objects_left, marked_from}
use Rattle.copy_store.proofs.Plays.{with_values, plays_one, plays_all, within_then, objects_within}
use Rattle.copy_store.proofs.place.Place.play.Goals as goal

pub loop-object-init : goal.loop-object-init
loop-object-init c =
    let x = c.args.self.now in
    let all : objects_left c.into_iter-object-iterator.result ≡ marked_from x.wrote 0 = search rules in
    record { can = tt; ends = tt; inside = subst (All (λ j. j < 128)) (sym all) (objects_within x.wrote); same = ap (with_values x.own c.args.board.now) all }

pub loop-object-preserved : goal.loop-object-preserved
loop-object-preserved c =
    let first : objects_left c.loop-object.object-iterator ≡ c.in-Some.object ∷ objects_left c.next.new.self = search rules in
    record {
      can = tt;
      ends = tt;
      inside = within_then c.args.self.now.own c.loop-object.board _ _ _ first c.loop-object.invariant.inside;
      same = plays_one _ _ _ _ _ first _ c.loop-object.invariant.same;
    }

pub returns : goal.returns
returns c =
    let x = c.args.self.now in
    let none : objects_left c.loop-object.object-iterator ≡ [] = search rules in
    let whole : length c.args.board.now ≡ 128 = omega arith in
    record { after = ap (with_values x.own c.loop-object.board) (sym none) ∙ c.loop-object.invariant.same ∙ plays_all x.wrote x.own c.args.board.now whole }
