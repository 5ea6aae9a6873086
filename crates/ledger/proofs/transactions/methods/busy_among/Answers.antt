-- Counting those that are busy, one by one.
use Rattle.std.proofs.Common.{sym, ◌∙◌, arith}
use Rattle.ledger.specs.Transactions.{busy_at}
use Rattle.ledger.proofs.Upward.{tally_yes, tally_not, tally_all}
use Rattle.ledger.proofs.transactions.methods.busy_among.Goals as goal
use Rattle.ledger.proofs.transactions.methods.busy_among.Goals.{then-busy_at, else-busy_at}

pub loop-x-preserved : goal.loop-x-preserved
loop-x-preserved c =
    let f = busy_at c.args.replica in
    let xs = c.args.txns.now in
    let i = c.loop-x.x-index in
    elim c.if-busy_at.branch [
      | then-busy_at w ↦ let m = tally_yes f xs i _ c.loop-x-test.true (sym c.busy_at.ensures.answer ∙ w.if-busy_at.true) in (omega (arith, w.busy-is), omega (arith, w.busy-is))
      | else-busy_at w ↦ let m = tally_not f xs i _ c.loop-x-test.true (sym c.busy_at.ensures.answer ∙ w.if-busy_at.false) in (omega (arith, w.busy-is), omega (arith, w.busy-is))
    ]

pub returns : goal.returns
returns c = record { answer = omega (arith, tally_all (busy_at c.args.replica) c.args.txns.now c.loop-x.x-index (omega arith)) }
