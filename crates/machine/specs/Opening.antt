-- What open answers and leaves.
use Rattle.std.specs.Prelude.{ℕ, suc, true, cond, List, [], ◌∷◌, Some, None, Ok, Err, Option, Result, nat_le}
use Rattle.tickets.specs.Boards.{Board}
use Rattle.stores.specs.Model.{StoreModel}
use Rattle.banks.specs.Model.{store_at, told_count}
use Rattle.errands.specs.Outcomes.{done, refused, look}
use Rattle.errands.specs.Copies.{used, first_above_top, first_unlike}
use Rattle.machine.specs.declared.reason.Reason.{Reason}
use Rattle.machine.specs.declared.reason.Reason.TheVariants.{TooManyReplicas, ReplicaUsed, ReplicaAboveTop, ReplicaUnlike, AlreadyOpened}
use Rattle.machine.specs.Machine.{Machine, Came, bind}

abbrev pub unless_found : Option ℕ → (ℕ → Reason) → Result (Unit {0}) Reason → Result (Unit {0}) Reason
unless_found None f r = r
unless_found (Some j) f r = Err (f j)

-- replica k may be opened: 11, 12, 13
unfoldable pub copy_fits : Board → ℕ → StoreModel → Result (Unit {0}) Reason
copy_fits start k m =
    cond (used m) (Err (ReplicaUsed k))
    (unless_found (first_above_top m.board) (ReplicaAboveTop k)
    (unless_found (first_unlike start m.board) (ReplicaUnlike k)
    (Ok tt)))

-- the replicas from k on may be opened, one after the other
unfoldable pub copies_fit : Board → ℕ → List StoreModel → Result (Unit {0}) Reason
copies_fit start k [] = Ok tt
copies_fit start k (m ∷ ms) = bind (copy_fits start k m) (λ _. copies_fit start (suc k) ms)

-- replica 0's board
abbrev pub starting_board : List StoreModel → Board
starting_board ms = (store_at ms 0).board

-- 10, then 11 to 13; the starting board
abbrev pub may_open : List StoreModel → Result Board Reason
may_open ms =
    cond (nat_le (told_count ms) 8)
    (bind (copies_fit (starting_board ms) 0 ms) (λ _. Ok (starting_board ms)))
    (Err TooManyReplicas)

abbrev pub opened_on : Machine → Board → Machine
opened_on b start = record { opened = true; start = start; stores = b.stores; txns = b.txns; sets = b.sets }

-- 21, 10 to 13
abbrev pub opening : Machine → Came (Unit {0})
opening b = cond b.opened (refused AlreadyOpened b) (look (may_open b.stores) b (λ start. done tt (opened_on b start)))
