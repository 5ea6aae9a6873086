-- The refusals of a bank: each one's number, and the values that it names.
use Rattle.std.specs.Prelude.{ℕ, List, [], ◌∷◌}
use Rattle.stores.specs.Faults.{number_of}
use Rattle.banks.specs.declared.fault.BankFault.{BankFault}
use Rattle.banks.specs.declared.fault.BankFault.TheVariants.{NoReplica, At}

-- no such replica is 1; a store's refusal keeps its number; both name the replica
abbrev pub listed : BankFault → ℕ × List ℕ
listed (NoReplica k) = (1, k ∷ [])
listed (At k e) = (number_of e, k ∷ [])
