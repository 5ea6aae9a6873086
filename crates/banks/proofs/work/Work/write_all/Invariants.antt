use Rattle.std.proofs.Common.{◌≡◌, ◌<◌, map, length}
use Rattle.tickets.specs.Meaning.{pair_of}
use Rattle.banks.specs.Model.{asked, changed}
use Rattle.banks.specs.Works.{replica_of, place_of}
use Rattle.banks.specs.Steps.{writes_answer, writes_after}
use Rattle.banks.proofs.Writes.{left_from}
use Rattle.banks.proofs.work.Work.write_all.Given as goal

-- what is left to write gives what all of it gives, and where one was written there is such a replica
abbrev pub invariant-loop-pair : goal.invariant-loop-pair
invariant-loop-pair g l =
    let ms = g.B.Bank.stores in
    let k = replica_of l.self in
    let p = place_of l.self in
    let left = left_from l.pair-items l.pair-index in
    let all = map pair_of l.pair-items in
    record {
      answer : asked (ms l.bank) k (λ m. writes_answer m p left) ≡ asked (ms l.initial.bank) k (λ m. writes_answer m p all);
      after : changed (ms l.bank) k (λ m. writes_after m p left) ≡ changed (ms l.initial.bank) k (λ m. writes_after m p all);
      there : 0 < l.pair-index → k < length (ms l.bank);
    }
