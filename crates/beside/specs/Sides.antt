-- Where a replica of two banks side by side is, and how a fault of the right one is told.
use Rattle.std.specs.Prelude.{ℕ, ◌-◌, cond, Some, None, Ok, Err, Option, Result, nat_lt}
use Rattle.banks.specs.declared.fault.BankFault.{BankFault}
use Rattle.banks.specs.declared.fault.BankFault.TheVariants.{NoReplica, At}

-- the number in the right bank of replica k, where the left bank has n stores; none where it is in the left one
abbrev pub right_number : ℕ → ℕ → Option ℕ
right_number n k = cond (nat_lt k n) None (Some (k - n))

-- a fault under the replica number that the caller gave
abbrev pub renumbered : {A : Type 0} → ℕ → Result A BankFault → Result A BankFault
renumbered k (Ok x) = Ok x
renumbered k (Err (NoReplica i)) = Err (NoReplica k)
renumbered k (Err (At i e)) = Err (At k e)
