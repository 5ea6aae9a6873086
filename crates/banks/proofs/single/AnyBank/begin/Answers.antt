use Rattle.banks.proofs.Others.{others_by}
use Rattle.banks.proofs.One.{only_answered, only_after, none_answer, none_after}
use Rattle.banks.proofs.single.AnyBank.begin.Goals as goal

pub returns-in-err-only : goal.returns-in-err-only
returns-in-err-only g c =
    let m = g.S.Store.meaning c.args.self.now in
    let k = c.args.replica in
    let z = c.in-err-only.ensures.answer in
    let after = none_after m k z _ in
    record { answer = none_answer m k z _ c.from-residual.ensures.1; after = after; others = others_by _ k _ after }

pub returns : goal.returns
returns g c =
    let m = g.S.Store.meaning c.args.self.now in
    let k = c.args.replica in
    let z = c.in-ok-only.ensures.answer in
    let after = only_after m k z _ c.begin.ensures.after in
    record { answer = only_answered m k z _ c.at-replica.ensures.answer c.begin.ensures.answer; after = after; others = others_by _ k _ after }
