-- The same at replica k of a bank: its store answers and changes, and no other.
use Rattle.std.specs.Prelude.{◌≡◌, ℕ, ◌<◌, List, length, Ok, Result}
use Rattle.tickets.specs.WriteSets.{Pairs}
use Rattle.stores.specs.declared.fault.StoreFault.{StoreFault}
use Rattle.stores.specs.Model.{StoreModel, bind, begin_answer, value_answer}
use Rattle.banks.specs.declared.fault.BankFault.{BankFault}
use Rattle.banks.specs.Model.{store_at}
use Rattle.clients.specs.Committed.{Closed, Landed}

-- where nothing refuses it
abbrev pub LandsAt : List StoreModel → ℕ → ℕ → Pairs → Result (Unit {0}) BankFault → List StoreModel → Type 0
LandsAt ms k p ps r ms' =
    k < length ms → Closed (store_at ms k) p → (store_at ms k).commits < (store_at ms k).most → (r ≡ Ok tt) × Landed (store_at ms k) ps (store_at ms' k)

-- begin's refusals come first, then the current value
abbrev pub look_answer : StoreModel → ℕ → ℕ → Result ℕ StoreFault
look_answer m p j = bind (begin_answer m p) (λ _. value_answer m j)
