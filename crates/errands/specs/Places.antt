-- A place that is not open, looked for among 0 to 15: every store has those.
use Rattle.std.specs.Prelude.{ℕ, zero, suc, ◌+◌, Bool, true, false, cond, List, Ok, Err, Option, Result}
use Rattle.std.specs.List.{find, range_with_len}
use Rattle.stores.specs.Model.{StoreModel, open_answer}
use Rattle.banks.specs.declared.fault.BankFault.{BankFault}
use Rattle.banks.specs.Model.{asked}

abbrev pub is_vacant : Result Bool BankFault → Bool
is_vacant (Ok true) = false
is_vacant (Ok false) = true
is_vacant (Err e) = false

-- place p of replica k is there and not open
abbrev pub vacant_at : List StoreModel → ℕ → ℕ → Bool
vacant_at ms k p = is_vacant (asked ms k (λ m. open_answer m p))

-- the first of the n places from p on that is not open; 0 where all are
unfoldable pub vacant_from : List StoreModel → ℕ → ℕ → ℕ → ℕ
vacant_from ms k p zero = 0
vacant_from ms k p (suc n) = cond (vacant_at ms k p) p (vacant_from ms k (p + 1) n)

-- the first of the places 0 to 15 of replica k that is not open; 0, which the store refuses, where all are
abbrev pub vacant : List StoreModel → ℕ → ℕ
vacant ms k = vacant_from ms k 0 16

-- the same, and none where all are open
abbrev pub first_vacant : List StoreModel → ℕ → Option ℕ
first_vacant ms k = find (vacant_at ms k) (range_with_len 0 16)
