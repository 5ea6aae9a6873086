use Rattle.banks.proofs.Others.{others_by}
use Rattle.banks.proofs.One.{only_answered, only_after, none_answer, none_after}
use Rattle.banks.proofs.single.AnyBank.abort.Goals as goal

pub returns-in_err-only : goal.returns-in_err-only
returns-in_err-only g c =
    let m = g.S.Store.meaning c.args.self.now in
    let k = c.args.replica in
    let z = c.in_err-only.ensures.answer in
    let after = none_after m k z _ in
    record { answer = none_answer m k z _ c.from_residual.ensures.1; after = after; others = others_by _ k _ after }

pub returns : goal.returns
returns g c =
    let m = g.S.Store.meaning c.args.self.now in
    let k = c.args.replica in
    let z = c.in_ok-only.ensures.answer in
    let after = only_after m k z _ c.abort.ensures.after in
    record { answer = only_answered m k z _ c.at_replica.ensures.answer c.abort.ensures.answer; after = after; others = others_by _ k _ after }
