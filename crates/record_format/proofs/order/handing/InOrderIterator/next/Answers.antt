use Rattle.std.proofs.Common.{arith}
use Rattle.record_format.proofs.Handing.{next_handed_out}
use Rattle.record_format.proofs.order.handing.InOrderIterator.next.Goals as goal

pub returns-clause-steps : goal.returns-clause-steps
returns-clause-steps g c = next_handed_out g.R.NumberedSets.items c.args.self.now c.item.result _ (omega arith) (omega (arith, c.args.self.now.counted)) c.item.ensures.answer
