-- The refusals: each one's number, and the values that it names.
use Rattle.std.specs.Prelude.{ℕ, Bool, true, false, List, [], ◌∷◌, Some, None}
use Rattle.banks.specs.Faults as banks
use Rattle.record_format.specs.Faults.{Refusal, refusal_of}
use Rattle.machine.specs.declared.reason.Reason.{Reason}
use Rattle.machine.specs.declared.reason.Reason.TheVariants.{NoReplica, NoTransaction, NoObject, NoWriteSet, AboveTop, TooManyReplicas, ReplicaUsed, ReplicaAboveTop, ReplicaUnlike, NotOpened, AlreadyOpened, Holes, Busy, TransactionsGiven, TransactionNotOpen, NinthObject, WriteSetsGiven, AlreadyApplied, HeldBack, Store, Record}

-- a refusal that has no number is listed under 0
abbrev pub with_number : Refusal → ℕ × List ℕ
with_number (Some n, vs) = (n, vs)
with_number (None, vs) = (0, vs)

-- k is a replica, j an object, n a number
abbrev pub listed : Reason → ℕ × List ℕ
listed NoReplica = (1, [])
listed NoTransaction = (2, [])
listed NoObject = (3, [])
listed NoWriteSet = (4, [])
listed AboveTop = (5, [])
listed TooManyReplicas = (10, [])
listed (ReplicaUsed k) = (11, k ∷ [])
listed (ReplicaAboveTop k j) = (12, k ∷ j ∷ [])
listed (ReplicaUnlike k j) = (13, k ∷ j ∷ [])
listed NotOpened = (20, [])
listed AlreadyOpened = (21, [])
listed Holes = (26, [])
listed Busy = (27, [])
listed TransactionsGiven = (28, [])
listed TransactionNotOpen = (29, [])
listed NinthObject = (30, [])
listed WriteSetsGiven = (31, [])
listed AlreadyApplied = (32, [])
listed (HeldBack n) = (33, n ∷ [])
listed (Store e) = banks.listed e
listed (Record e) = with_number (refusal_of e)

-- the refusal carries a store's fault
abbrev pub from_store : Reason → Bool
from_store NoReplica = false
from_store NoTransaction = false
from_store NoObject = false
from_store NoWriteSet = false
from_store AboveTop = false
from_store TooManyReplicas = false
from_store (ReplicaUsed k) = false
from_store (ReplicaAboveTop k j) = false
from_store (ReplicaUnlike k j) = false
from_store NotOpened = false
from_store AlreadyOpened = false
from_store Holes = false
from_store Busy = false
from_store TransactionsGiven = false
from_store TransactionNotOpen = false
from_store NinthObject = false
from_store WriteSetsGiven = false
from_store AlreadyApplied = false
from_store (HeldBack n) = false
from_store (Store e) = true
from_store (Record e) = false
