-- The plain board: what it holds from its opening on, and the checks of its calls.
use Rattle.std.specs.Prelude.{ℕ, ◌-◌, Bool, true, false, ◌&&◌, List, [], length, replicate, ◌==◌, slice_index_or, slice_set}
use Rattle.tickets.specs.Boards.{Board}
use Rattle.tickets.specs.WriteSets.{Pairs}
use Rattle.law.specs.Numbers.{up_to, tally}
use Rattle.law.specs.History.{Answer}
use Rattle.law.specs.History.Answer.{refused}

-- an open transaction has a snapshot and own writes; a pending one waits for its home application, under the number of its write set
pub data TransactionState : Type 0 where
  live : Board → Pairs → TransactionState
  pending : ℕ → TransactionState
  committed : TransactionState
  aborted : TransactionState
  given_up : TransactionState

-- s is the snapshot number: how many write sets were applied at the home when the transaction began
pub record Transaction : Type 0 where
  pub home : ℕ
  pub s : ℕ
  pub state : TransactionState

-- a write set that has its number: whose it is, with that transaction's home and s
pub record Numbered : Type 0 where
  pub who : ℕ
  pub home : ℕ
  pub s : ℕ
  pub pairs : Pairs

-- the boards stand by replica from 0, the write sets and the transactions by number from 1; applied takes a replica and a number
pub record Plain : Type 0 where
  pub start : Board
  pub sets : List Numbered
  pub boards : List Board
  pub applied : ℕ → ℕ → Bool
  pub transactions : List Transaction

-- what a call comes to
abbrev pub Outcome : Type 0
Outcome = Answer × Plain

-- a board of K replicas just opened, each with the starting board
abbrev pub just_opened : Board → ℕ → Plain
just_opened start K = record { start = start; sets = []; boards = replicate K start; applied = λ _ _. false; transactions = [] }

abbrev pub no_transaction : Transaction
no_transaction = record { home = 0; s = 0; state = given_up }

abbrev pub no_set : Numbered
no_set = record { who = 0; home = 0; s = 0; pairs = [] }

-- transaction t
abbrev pub transaction : Plain → ℕ → Transaction
transaction p t = slice_index_or p.transactions (t - 1) no_transaction

-- write set n, and its pairs
abbrev pub numbered : List Numbered → ℕ → Numbered
numbered N n = slice_index_or N (n - 1) no_set

abbrev pub pairs : List Numbered → ℕ → Pairs
pairs N n = (numbered N n).pairs

-- the board of the replica k
abbrev pub board : Plain → ℕ → Board
board p k = slice_index_or p.boards k []

-- open or pending
abbrev pub is_busy : TransactionState → Bool
is_busy (live b u) = true
is_busy (pending n) = true
is_busy committed = false
is_busy aborted = false
is_busy given_up = false

-- the open or pending transactions at home at k
abbrev pub busy_at : ℕ → Transaction → Bool
busy_at k x = x.home == k && is_busy x.state

abbrev pub busy : ℕ → List Transaction → ℕ
busy k T = tally (busy_at k) T

-- a check of a call: where it fails, the refusal's number, and nothing is changed
unfoldable pub check : Bool → ℕ → Plain → Outcome → Outcome
check true n p o = o
check false n p o = (refused n [], p)

-- the check 29
abbrev pub on_live : TransactionState → Plain → (Board → Pairs → Outcome) → Outcome
on_live (live b u) p f = f b u
on_live (pending n) p f = (refused 29 [], p)
on_live committed p f = (refused 29 [], p)
on_live aborted p f = (refused 29 [], p)
on_live given_up p f = (refused 29 [], p)

-- the checks 2 and 29 of transaction t, whose snapshot and own writes f takes
abbrev pub on_transaction : ℕ → Plain → (Board → Pairs → Outcome) → Outcome
on_transaction t p f = check (up_to (length p.transactions) t) 2 p (on_live (transaction p t).state p f)

-- transaction t comes to x
abbrev pub with_transaction : Plain → ℕ → Transaction → Plain
with_transaction p t x = record { start = p.start; sets = p.sets; boards = p.boards; applied = p.applied; transactions = slice_set p.transactions (t - 1) x }

abbrev pub in_state : TransactionState → Transaction → Transaction
in_state e x = record { home = x.home; s = x.s; state = e }
