-- What the walk finds heads the objects that are left.
use Rattle.std.proofs.Common.{sym, rules}
use Rattle.marks.proofs.Laws.{none_left, one_in_turn}
use Rattle.marks.proofs.objects.ObjectsIterator.next.Goals as goal

pub returns-clause-steps : goal.returns-clause-steps
returns-clause-steps c = one_in_turn c.args.self.now.marks.now c.args.self.now.from c.in_ok-object.object (sym c.in_ok-object.ensures.answer) c.in_ok-object.ensures.lowest.0 c.in_ok-object.ensures.within

pub returns-in_err-object-clause-steps : goal.returns-in_err-object-clause-steps
returns-in_err-object-clause-steps c = let h = none_left c.args.self.now.marks.now c.args.self.now.from (sym c.in_err-object.ensures.answer) in search rules

pub returns-clause-goes : goal.returns-clause-goes
returns-clause-goes c = let h = one_in_turn c.args.self.now.marks.now c.args.self.now.from c.in_ok-object.object (sym c.in_ok-object.ensures.answer) c.in_ok-object.ensures.lowest.0 c.in_ok-object.ensures.within in search rules
