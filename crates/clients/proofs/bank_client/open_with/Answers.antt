use Rattle.std.proofs.Common.{Err, sym, ap, ◌∙◌}
use Rattle.std.proofs.lemmas.Result.{err_from_is_err_and}
use Rattle.tickets.specs.Meaning.{pairs}
use Rattle.clients.proofs.Pairs.{set_fits}
use Rattle.clients.proofs.AtBank.{open_refused, open_written, open_never}
use Rattle.clients.proofs.bank_client.open_with.Goals as goal

pub returns-in_err-work : goal.returns-in_err-work
returns-in_err-work g c =
    let ms = g.B.Bank.stores c.args.bank.now in
    let b = c.in_err-work.ensures in
    let r = err_from_is_err_and c.from_residual.result c.from_residual.ensures.1 in
    record {
      answer = r.1 ∙ ap (λ e. Err e) r.2 ∙ b.answer;
      after = open_refused ms _ c.args.replica c.args.place (pairs c.args.set.now) (set_fits c.args.set.now) b.after _ b.answer;
    }

pub unreachable-requires : goal.unreachable-requires
unreachable-requires g c =
    let ms = g.B.Bank.stores c.args.bank.now in
    let b = c.in_ok-work.ensures in
    let refused = sym c.in_default.is ∙ c.write_all.ensures.answer in
    open_never ms _ c.args.replica c.args.place (pairs c.args.set.now) (set_fits c.args.set.now) b.after c.in_ok-work.work b.answer _ refused

pub returns : goal.returns
returns g c =
    let ms = g.B.Bank.stores c.args.bank.now in
    let b = c.in_ok-work.ensures in
    record {
      answer = b.answer;
      after = open_written ms _ c.args.replica c.args.place (pairs c.args.set.now) (set_fits c.args.set.now) b.after c.in_ok-work.work b.answer c.write_all.ensures.after;
    }
