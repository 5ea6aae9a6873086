-- Copy by copy; at most eight, so all of them are counted.
use Rattle.std.proofs.Common.{Err, sym, ap, ◌∙◌, arith}
use Rattle.std.proofs.lemmas.Result.{err_from_is_err_and}
use Rattle.machine.proofs.Opened.{fits_more, fits_not, fits_all}
use Rattle.engine.proofs.engine.opens.copies_fit.Goals as goal

pub returns-in_err-copy_fits : goal.returns-in_err-copy_fits
returns-in_err-copy_fits g c =
    let ms = g.B.Bank.stores c.args.bank.now in
    let p = err_from_is_err_and c.from_residual.result c.from_residual.ensures.1 in
    let not = fits_not c.args.start.now ms c.loop-replica.replica (omega (arith, c.count-replica-end.ensures.answer)) _ c.copy_fits.ensures.answer _ c.in_err-copy_fits.was in
    record { answer = p.1 ∙ ap Err p.2 ∙ sym not ∙ c.loop-replica.invariant }

pub loop-replica-preserved : goal.loop-replica-preserved
loop-replica-preserved g c =
    let ms = g.B.Bank.stores c.args.bank.now in
    let more = fits_more c.args.start.now ms c.loop-replica.replica (omega (arith, c.count-replica-end.ensures.answer)) _ c.copy_fits.ensures.answer _ c.in_ok-copy_fits.was in
    sym more ∙ c.loop-replica.invariant

pub returns : goal.returns
returns g c =
    let ms = g.B.Bank.stores c.args.bank.now in
    record { answer = sym (fits_all c.args.start.now ms c.loop-replica.replica (omega (arith, c.count-replica-end.ensures.answer))) ∙ c.loop-replica.invariant }
