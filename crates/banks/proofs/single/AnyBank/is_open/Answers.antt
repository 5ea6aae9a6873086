use Rattle.banks.proofs.One.{only_answered, none_answer}
use Rattle.banks.proofs.single.AnyBank.is_open.Goals as goal

pub returns-in_err-only : goal.returns-in_err-only
returns-in_err-only g c =
    let m = g.S.Store.meaning c.args.self.now in
    let k = c.args.replica in
    let z = c.in_err-only.ensures.answer in
    record { answer = none_answer m k z _ c.from_residual.ensures.1 }

pub returns : goal.returns
returns g c =
    let m = g.S.Store.meaning c.args.self.now in
    let k = c.args.replica in
    let z = c.in_ok-only.ensures.answer in
    record { answer = only_answered m k z _ c.at_replica.ensures.answer c.is_open.ensures.answer }
