-- What the opened plain board does at each call, and over a queue.
use Rattle.std.specs.Prelude.{ℕ, Bool, List, [], ◌∷◌, length, nat_lt}
use Rattle.calls.specs.declared.call.Call.{Call}
use Rattle.calls.specs.declared.call.Call.TheVariants.{Begin, Read, Write, Commit, GiveUp, Apply, Drain, Value, State, WriteSet, Applied}
use Rattle.tickets.specs.Boards.{value}
use Rattle.law.specs.Numbers.{up_to, count, whole, flag}
use Rattle.law.specs.Writes.{listed}
use Rattle.law.specs.History.{History, run_of}
use Rattle.law.specs.History.Answer.{told, values}
use Rattle.law.specs.Plain.{TransactionState, Numbered, Plain, Outcome, transaction, numbered, board, check, on_transaction}
use Rattle.law.specs.Plain.TransactionState.{live, pending, committed, aborted, given_up}
use Rattle.law.specs.Transactions.{begin_at, read_of, write_of, commit_of, give_up_of}
use Rattle.law.specs.Applications.{apply_at, drain_at}

-- a state by its number, and a pending one with the number of its write set
abbrev pub state_values : TransactionState → List ℕ
state_values (live b u) = 0 ∷ []
state_values (pending n) = 1 ∷ n ∷ []
state_values committed = 2 ∷ []
state_values aborted = 3 ∷ []
state_values given_up = 4 ∷ []

-- home, s, and the pairs
abbrev pub set_values : Numbered → List ℕ
set_values y = y.home ∷ y.s ∷ listed y.pairs

-- of the G numbers: how many are applied, and whether without holes
abbrev pub applied_values : (ℕ → Bool) → ℕ → List ℕ
applied_values f G = count f G ∷ flag (whole f G) ∷ []

unfoldable pub step : Call → Plain → Outcome
step (Begin k) p = begin_at k p
step (Read t j) p = on_transaction t p (read_of j p)
step (Write t j v) p = on_transaction t p (write_of t j v p)
step (Commit t) p = on_transaction t p (commit_of t p)
step (GiveUp t) p = on_transaction t p (give_up_of t p)
step (Apply k n) p = apply_at k n p
step (Drain k m) p = drain_at k m p
step (Value k j) p = check (nat_lt k (length p.boards)) 1 p (check (nat_lt j 128) 3 p (told (value (board p k) j), p))
step (State t) p = check (up_to (length p.transactions) t) 2 p (values ((transaction p t).s ∷ state_values (transaction p t).state), p)
step (WriteSet n) p = check (up_to (length p.sets) n) 4 p (values (set_values (numbered p.sets n)), p)
step (Applied k) p = check (nat_lt k (length p.boards)) 1 p (values (applied_values (p.applied k) (length p.sets)), p)

-- a queue of calls, after the history h
abbrev pub run : List Call → History → Plain → History × Plain
run cs h p = run_of step cs h p
