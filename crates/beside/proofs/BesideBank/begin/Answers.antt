use Rattle.banks.proofs.Others.{others_by}
use Rattle.beside.specs.Halves.{left_answer, left_after, right_answer, right_after}
use Rattle.beside.proofs.BesideBank.begin.Goals as goal

pub returns-in-None : goal.returns-in-None
returns-in-None g c =
    let ls = g.L.Bank.stores c.args.self.now.left in
    let rs = g.R.Bank.stores c.args.self.now.right in
    let k = c.args.replica in
    let s = c.in-None.ensures.answer in
    let after = left_after ls rs k s _ c.begin.ensures.after in
    record { answer = left_answer ls rs k s _ c.begin.ensures.answer; after = after; others = others_by _ k _ after }

pub returns-in-Some : goal.returns-in-Some
returns-in-Some g c =
    let ls = g.L.Bank.stores c.args.self.now.left in
    let rs = g.R.Bank.stores c.args.self.now.right in
    let k = c.args.replica in
    let i = c.in-Some.there in
    let s = c.in-Some.ensures.answer in
    let after = right_after ls rs k i s _ c.begin-in-Some.ensures.after in
    record { answer = right_answer ls rs k i s _ c.under.ensures.answer c.begin-in-Some.ensures.answer; after = after; others = others_by _ k _ after }
