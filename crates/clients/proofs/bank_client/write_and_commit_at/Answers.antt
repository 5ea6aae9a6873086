use Rattle.std.proofs.Common.{Err, ap, ◌∙◌}
use Rattle.std.proofs.lemmas.Result.{err_from_is_err_and}
use Rattle.tickets.specs.Meaning.{pairs}
use Rattle.banks.proofs.Others.{others_by}
use Rattle.clients.specs.Committed.{room}
use Rattle.clients.proofs.Pairs.{set_fits}
use Rattle.clients.proofs.AtBank.{refused_answer}
use Rattle.clients.proofs.SettlesAtBank.{not_opened, committed_answer, committed_after, lands_at}
use Rattle.clients.proofs.bank_client.write_and_commit_at.Goals as goal

pub returns-in_err-work : goal.returns-in_err-work
returns-in_err-work g c =
    let ms = g.B.Bank.stores c.args.bank.now in
    let k = c.args.replica in
    let p = c.args.place in
    let set = c.args.set.now in
    let o = c.in_err-work.ensures in
    let r = err_from_is_err_and c.from_residual.result c.from_residual.ensures.1 in
    let answer = refused_answer ms k p _ o.answer room (r.1 ∙ ap (λ e. Err e) r.2) in
    let after = not_opened ms _ k p (pairs set) (set_fits set) o.after _ o.answer in
    record { answer = answer; after = after; others = others_by ms k _ after; law = lands_at ms _ k p (pairs set) _ answer after }

pub returns : goal.returns
returns g c =
    let ms = g.B.Bank.stores c.args.bank.now in
    let k = c.args.replica in
    let p = c.args.place in
    let set = c.args.set.now in
    let w = c.in_ok-work.work in
    let o = c.in_ok-work.ensures in
    let answer = committed_answer ms _ k p (pairs set) (set_fits set) o.after w o.answer c.settle.ensures.answer in
    let after = committed_after ms _ k p (pairs set) (set_fits set) o.after w o.answer c.settle.ensures.after in
    record { answer = answer; after = after; others = others_by ms k _ after; law = lands_at ms _ k p (pairs set) _ answer after }
