-- What is refused is aborted; what is written is settled.
use Rattle.std.proofs.Common.{sym, ◌∙◌}
use Rattle.errands.proofs.Written.{fill_refused, fill_ended}
use Rattle.errands.proofs.replay.fill.Goals as goal

pub returns-in-Err : goal.returns-in-Err
returns-in-Err g c =
    let s = fill_refused c.args.work c.args.set.now (g.B.Bank.stores c.args.bank.now) _ c.write_all.ensures.after c.in-Err.fault (sym c.in-Err.is ∙ c.write_all.ensures.answer) c.abort.ensures.after in
    record { answer = s.0; after = s.1 }

pub returns : goal.returns
returns g c =
    let s = fill_ended c.args.work c.args.set.now (g.B.Bank.stores c.args.bank.now) _ c.write_all.ensures.after (sym c.in_default.is ∙ c.write_all.ensures.answer) c.settle.ensures.answer c.settle.ensures.after in
    record { answer = s.0; after = s.1 }
