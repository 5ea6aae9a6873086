-- A write set played at a place of its own: begun, written, committed. A refusal ends it, and the place is freed.
use Rattle.std.specs.Prelude.{ℕ, List, [], ◌∷◌, Ok, Err, Result}
use Rattle.stores.specs.declared.fault.StoreFault.{StoreFault}
use Rattle.stores.specs.Model.{StoreModel, begin_answer, begin_after, write_answer, write_after, commit_answer, commit_after, abort_answer, abort_after}
use Rattle.tickets.specs.WriteSets.{Pairs}
use Rattle.banks.specs.declared.fault.BankFault.{BankFault}
use Rattle.banks.specs.declared.work.Unfinished.{Unfinished}
use Rattle.banks.specs.declared.work.Unfinished.TheVariants.{Ended, Back}
use Rattle.banks.specs.Model.{asked, changed}
use Rattle.banks.specs.Works.{refused}
use Rattle.errands.specs.Outcomes as outcomes
use Rattle.errands.specs.Outcomes.{Outcome, done, step}

-- what a bank answers, and the stores that it is left with
abbrev pub AtBank : Type 0 → Type 0
AtBank A = Outcome A BankFault (List StoreModel)

-- a call of the store k
abbrev pub at : {A : Type 0} → List StoreModel → ℕ → (StoreModel → Result A StoreFault) → (StoreModel → StoreModel) → AtBank A
at ms k answer after = record { answer = asked ms k answer; after = changed ms k after }

abbrev pub begin_at : ℕ → ℕ → List StoreModel → AtBank (Unit {0})
begin_at k p ms = at ms k (λ m. begin_answer m p) (λ m. begin_after m p)

abbrev pub write_at : ℕ → ℕ → ℕ × ℕ → List StoreModel → AtBank (Unit {0})
write_at k p x ms = at ms k (λ m. write_answer m p x.0 x.1) (λ m. write_after m p x.0 x.1)

abbrev pub commit_at : ℕ → ℕ → List StoreModel → AtBank (Unit {0})
commit_at k p ms = at ms k (λ m. commit_answer m p) (λ m. commit_after m p)

abbrev pub abort_at : ℕ → ℕ → List StoreModel → AtBank (Unit {0})
abort_at k p ms = at ms k (λ m. abort_answer m p) (λ m. abort_after m p)

abbrev pub aborted_at : ℕ → ℕ → List StoreModel → List StoreModel
aborted_at k p ms = (abort_at k p ms).after

-- the pairs written in their order; the first refusal ends it
unfoldable pub write_all : ℕ → ℕ → Pairs → List StoreModel → AtBank (Unit {0})
write_all k p [] ms = done tt ms
write_all k p (x ∷ xs) ms = step (write_at k p x ms) (λ _. write_all k p xs)

-- a refused commit leaves the place freed, or open, and then it is aborted
abbrev pub give_back : ℕ → ℕ → Unfinished → List StoreModel → AtBank (Unit {0})
give_back k p (Ended e) ms = outcomes.refused e ms
give_back k p (Back w e) ms = outcomes.refused e (aborted_at k p ms)

abbrev pub end_with : ℕ → ℕ → Result (Unit {0}) BankFault → List StoreModel → AtBank (Unit {0})
end_with k p (Ok u) ms = done u ms
end_with k p (Err e) ms = give_back k p (refused (record { replica = k; place = p }) e) ms

-- committed, or freed where the store is full
abbrev pub end_at : ℕ → ℕ → List StoreModel → AtBank (Unit {0})
end_at k p ms = end_with k p (commit_at k p ms).answer (commit_at k p ms).after

abbrev pub finish : ℕ → ℕ → Result (Unit {0}) BankFault → List StoreModel → AtBank (Unit {0})
finish k p (Ok u) ms = end_at k p ms
finish k p (Err e) ms = outcomes.refused e (aborted_at k p ms)

-- written and ended
abbrev pub fill : ℕ → ℕ → Pairs → List StoreModel → AtBank (Unit {0})
fill k p ps ms = finish k p (write_all k p ps ms).answer (write_all k p ps ms).after

-- begun, written and committed
unfoldable pub replay : ℕ → ℕ → Pairs → List StoreModel → AtBank (Unit {0})
replay k p ps ms = step (begin_at k p ms) (λ _. fill k p ps)
