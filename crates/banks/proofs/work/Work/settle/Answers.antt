use Rattle.std.proofs.Common.{sym, ◌∙◌}
use Rattle.banks.proofs.Settles.{settle_ok, settle_ended, settle_back}
use Rattle.banks.proofs.work.Work.settle.Goals as goal

pub returns-in_default-clause-after : goal.returns-in_default-clause-after
returns-in_default-clause-after g c =
    settle_ok _ _ c.args.self c.commit.ensures.after (sym c.in_default.is ∙ c.commit.ensures.answer)

pub returns-in-Ended-clause-after : goal.returns-in-Ended-clause-after
returns-in-Ended-clause-after g c =
    let a = c.in-Err.ensures.answer in
    let s = c.in-Ended.is in
    settle_ended _ _ c.args.self c.commit.ensures.after c.in-Ended.fault (cc)

pub returns-in-Back-clause-after : goal.returns-in-Back-clause-after
returns-in-Back-clause-after g c =
    let a = c.in-Err.ensures.answer in
    let s = c.in-Back.is in
    settle_back _ _ c.args.self c.commit.ensures.after c.in-Back.work c.in-Back.fault (cc) c.abort.ensures.after
