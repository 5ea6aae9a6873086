use Rattle.std.proofs.Common.{◌<◌, Err, refl, ap, ◌∙◌, arith}
use Rattle.std.proofs.lemmas.Result.{err_from_is_err_and}
use Rattle.banks.specs.Model.{asked, changed}
use Rattle.banks.specs.Steps.{writes_answer, writes_after}
use Rattle.banks.proofs.Writes.{write_goes_on, write_stops, writes_done}
use Rattle.banks.proofs.work.Work.write_all.Goals as goal

pub loop-pair-init : goal.loop-pair-init
loop-pair-init g c = record { answer = refl; after = refl; there = λ h. absurd (omega arith) }

pub returns-in_err-write : goal.returns-in_err-write
returns-in_err-write g c =
    let v = c.args.self.now in
    let all = c.pairs-pair-items.ensures.answer in
    let s = write_stops _ v.replica v.place _ c.loop-pair.pair-index _ _ c.loop-pair-test.true c.write.ensures.after _ c.in_err-write.ensures.answer in
    let r = err_from_is_err_and c.from_residual.result c.from_residual.ensures.1 in
    record {
      answer = r.1 ∙ ap (λ e. Err e) r.2 ∙ s.0 ∙ c.loop-pair.invariant.answer ∙ ap (λ ps. asked (g.B.Bank.stores c.args.bank.now) v.replica (λ m. writes_answer m v.place ps)) all;
      after = s.1 ∙ c.loop-pair.invariant.after ∙ ap (λ ps. changed (g.B.Bank.stores c.args.bank.now) v.replica (λ m. writes_after m v.place ps)) all;
    }

pub loop-pair-preserved : goal.loop-pair-preserved
loop-pair-preserved g c =
    let v = c.args.self.now in
    let s = write_goes_on _ v.replica v.place _ c.loop-pair.pair-index _ _ c.loop-pair-test.true c.write.ensures.after c.in_ok-write.ensures.answer in
    record { answer = s.0 ∙ c.loop-pair.invariant.answer; after = s.1 ∙ c.loop-pair.invariant.after; there = λ _. s.2 }

pub returns : goal.returns
returns g c =
    let v = c.args.self.now in
    let all = c.pairs-pair-items.ensures.answer in
    let some : 0 < c.loop-pair.pair-index = omega (arith, c.pairs-pair-items.ensures.bounds) in
    let d = writes_done _ v.replica v.place _ c.loop-pair.pair-index (c.loop-pair.invariant.there some) c.loop-pair-test.false in
    record {
      answer = d.0 ∙ c.loop-pair.invariant.answer ∙ ap (λ ps. asked (g.B.Bank.stores c.args.bank.now) v.replica (λ m. writes_answer m v.place ps)) all;
      after = d.1 ∙ c.loop-pair.invariant.after ∙ ap (λ ps. changed (g.B.Bank.stores c.args.bank.now) v.replica (λ m. writes_after m v.place ps)) all;
    }
