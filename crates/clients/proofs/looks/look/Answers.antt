use Rattle.std.proofs.Common.{Err, ap, ◌∙◌}
use Rattle.std.proofs.lemmas.Result.{err_from_is_err_and}
use Rattle.stores.specs.Model.{value_answer}
use Rattle.clients.proofs.AtBank.{refused_answer}
use Rattle.clients.proofs.SettlesAtBank.{look_refused, looked, left_as_it_was}
use Rattle.clients.proofs.looks.look.Goals as goal

pub returns-in_err-work : goal.returns-in_err-work
returns-in_err-work g c =
    let ms = g.B.Bank.stores c.args.bank.now in
    let k = c.args.replica in
    let p = c.args.place in
    let o = c.in_err-work.ensures in
    let r = err_from_is_err_and c.from_residual.result c.from_residual.ensures.1 in
    record { answer = refused_answer ms k p _ o.answer (λ m. value_answer m c.args.object) (r.1 ∙ ap (λ e. Err e) r.2); after = look_refused ms _ k p o.after _ o.answer }

pub returns : goal.returns
returns g c =
    let ms = g.B.Bank.stores c.args.bank.now in
    let k = c.args.replica in
    let p = c.args.place in
    let w = c.in_ok-work.work in
    let o = c.in_ok-work.ensures in
    record {
      answer = looked ms _ k p o.after w o.answer c.args.object c.read_and_end.ensures.answer;
      after = left_as_it_was ms _ k p o.after w o.answer c.read_and_end.ensures.after;
    }
