-- The plain board before and after its opening over a bank of stores.
use Rattle.std.specs.Prelude.{ℕ, zero, suc, ◌-◌, ◌<◌, Bool, cond, not, ◌||◌, List, [], ◌∷◌, length, ◌==◌, nat_le, nat_lt, slice_index_or}
use Rattle.calls.specs.declared.call.Call.{Call}
use Rattle.tickets.specs.Boards.{Board, value, top}
use Rattle.law.specs.Numbers.{lowest}
use Rattle.law.specs.History.{Answer, accepted}
use Rattle.law.specs.History.Answer.{done, refused}
use Rattle.law.specs.Plain.{Plain, just_opened}
use Rattle.law.specs.Steps.{step}
use Rattle.law.specs.Store.{Store, Lawful, open_count}

abbrev pub no_store : Store
no_store = record { board = []; commits = 0; most = 0; places = [] }

-- the store of the replica k
abbrev pub store_at : List Store → ℕ → Store
store_at bank k = slice_index_or bank k no_store

abbrev pub LawfulBank : List Store → Type 0
LawfulBank bank = (k : ℕ) → k < length bank → Lawful (store_at bank k)

-- replica 0's board is the starting board
abbrev pub start_of : List Store → Board
start_of bank = (store_at bank 0).board

-- a place is open, or a commit wrote
abbrev pub is_used : Store → Bool
is_used σ = nat_lt 0 σ.commits || nat_lt 0 (open_count σ.places)

-- the value of j is above its top
abbrev pub too_high : Board → ℕ → Bool
too_high b j = nat_lt (top j) (value b j)

-- two boards differ at j
abbrev pub unlike : Board → Board → ℕ → Bool
unlike a b j = not (value a j == value b j)

-- the lowest object that passes, counted from 1; 0: none
unfoldable pub first_object : (ℕ → Bool) → ℕ
first_object f = lowest (λ i. f (i - 1)) 128

-- a refusal that names the replica k and the object found
abbrev pub unless_found : ℕ → ℕ → ℕ → Answer → Answer
unless_found zero n k a = a
unless_found (suc j) n k a = refused n (k ∷ j ∷ [])

-- the checks of the stores from the replica k on: 11, 12, 13
unfoldable pub open_from : Board → ℕ → List Store → Answer
open_from start k [] = done
open_from start k (σ ∷ bank) =
    cond (is_used σ) (refused 11 (k ∷ []))
    (unless_found (first_object (too_high σ.board)) 12 k
    (unless_found (first_object (unlike start σ.board)) 13 k
    (open_from start (suc k) bank)))

-- what opening a bank is answered: 10, and the checks of each store from replica 0 on
abbrev pub opening : List Store → Answer
opening bank = cond (nat_le (length bank) 8) (open_from (start_of bank) 0 bank) (refused 10 [])

-- the plain board, from the start on
pub data PlainBoard : Type 0 where
  unopened : PlainBoard
  opened : Plain → PlainBoard

-- open: 21 where it is opened already; accepted, it gives each replica the starting board
abbrev pub board_open : List Store → PlainBoard → Answer × PlainBoard
board_open bank unopened = (opening bank, cond (accepted (opening bank)) (opened (just_opened (start_of bank) (length bank))) unopened)
board_open bank (opened p) = (refused 21 [], opened p)

-- any other call: 20 where it is not opened
abbrev pub board_step : Call → PlainBoard → Answer × PlainBoard
board_step c unopened = (refused 20 [], unopened)
board_step c (opened p) = ((step c p).0, opened (step c p).1)
