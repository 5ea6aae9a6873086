use Rattle.std.proofs.Common.{◌≡◌, ℕ, ◌<◌, length, get_or}
use Rattle.banks.specs.Model.{store_at}
use Rattle.errands.proofs.copies.starting_board.Given as goal

-- the values so far are replica 0's
abbrev pub invariant-loop-object : goal.invariant-loop-object
invariant-loop-object g l = (length l.value-items ≡ 128) × ((i : ℕ) → i < l.object → get_or l.value-items i 0 ≡ get_or (store_at (g.B.Bank.stores l.bank) 0).board i 0)
