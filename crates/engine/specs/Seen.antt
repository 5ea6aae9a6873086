-- What an engine means, over what its bank means.
use Rattle.std.specs.Prelude.{Bool, List, Ok, Err, Option, Result, is_some, replicate, unwrap_or}
use Rattle.tickets.specs.Boards.{Board}
use Rattle.stores.specs.Model.{StoreModel}
use Rattle.ledger.specs.declared.numbered.Numbered.{Numbered}
use Rattle.ledger.specs.Transactions.{txns_of}
use Rattle.ledger.specs.Sets.{SetModel, set_of, sets_of}
use Rattle.machine.specs.declared.reason.Reason.{Reason}
use Rattle.machine.specs.Machine.{Machine}
use Rattle.engine.specs.declared.engine.Engine.{Engine}

-- there is a starting board from the opening on
unfoldable pub is_started : Option Board → Bool
is_started start = is_some start

-- before the opening it reads as 0s, which mean nothing
unfoldable pub start_read : Option Board → Board
start_read start = unwrap_or start (replicate 128 0)

-- stores: what a bank means
abbrev pub seen : {X : Type 0} → (X → List StoreModel) → Engine X → Machine
seen stores m = record { opened = is_started m.start; start = start_read m.start; stores = stores m.bank; txns = txns_of m.txns; sets = sets_of m.sets }

-- a numbered write set that is answered, by what it means
abbrev pub set_seen : Result Numbered Reason → Result SetModel Reason
set_seen (Ok x) = Ok (set_of x)
set_seen (Err e) = Err e
