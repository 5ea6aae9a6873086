use Rattle.std.proofs.Common.{ℕ, ◌≤◌, length, IfOk, Result, sym, subst}
use Rattle.middleware.specs.declared.fault.Asked.TheVariants.{Record}
use Rattle.middleware.specs.declared.fault.BoardFault.{BoardFault}
use Rattle.middleware.specs.Listing.{asked_to}
use Rattle.middleware.specs.Meaning.{held}
use Rattle.middleware.specs.Records.{WritesRecord}
use Rattle.middleware.proofs.Recorded.{writes_record, within_buffer}
use Rattle.middleware.proofs.Served.{named}
use Rattle.middleware.proofs.middleware.Middleware.write_record.Goals as goal

pub returns : goal.returns
returns g c =
    let m = held g.B.Bank.stores c.args.self.now in
    let b = c.args.buffer.now in
    let b' = c.write_record.new.buffer in
    let e = c.write_record.ensures in
    let said = c.asked_to.ensures.answer in
    record {
      names = named _ _ _ said;
      law = subst (λ (r : Result ℕ BoardFault). WritesRecord m b r b') (sym said) (writes_record m Record b b' c.write_record.result e.answer e.bytes e.reads_back);
      room = subst (λ (r : Result ℕ BoardFault). IfOk r (λ n. n ≤ length b')) (sym said) (subst (λ (k : ℕ). IfOk (asked_to Record c.write_record.result) (λ n. n ≤ k)) (sym c.write_record.auto.buffer) (within_buffer m Record (length b) c.write_record.result e.answer));
    }
