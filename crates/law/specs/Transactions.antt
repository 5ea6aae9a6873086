-- The plain board's begin, read, write, commit and give-up.
use Rattle.std.specs.Prelude.{ℕ, zero, suc, ◌-◌, Bool, cond, ◌&&◌, List, [], ◌∷◌, ◌++◌, length, nat_le, nat_lt, slice_set}
use Rattle.tickets.specs.Boards.{Board, value, top}
use Rattle.tickets.specs.WriteSets.{Pairs, lookup, over}
use Rattle.law.specs.Numbers.{count, lowest, whole}
use Rattle.law.specs.Clashes.{clash}
use Rattle.law.specs.Writes.{put, room, is_empty}
use Rattle.law.specs.History.Answer.{done, told, read_only, aborts}
use Rattle.law.specs.Plain.{Transaction, Numbered, Plain, Outcome, transaction, pairs, board, busy, check, with_transaction, in_state}
use Rattle.law.specs.Plain.TransactionState.{live, pending, committed, aborted, given_up}

-- the transaction that begins at k: its snapshot is the board there
abbrev pub new_transaction : ℕ → Plain → Transaction
new_transaction k p = record { home = k; s = count (p.applied k) (length p.sets); state = live (board p k) [] }

abbrev pub with_begun : ℕ → Plain → Plain
with_begun k p = record { start = p.start; sets = p.sets; boards = p.boards; applied = p.applied; transactions = p.transactions ++ new_transaction k p ∷ [] }

-- begin at k: 1, 26, 27, 28; the next transaction number
abbrev pub begin_at : ℕ → Plain → Outcome
begin_at k p =
    check (nat_lt k (length p.boards)) 1 p
    (check (whole (p.applied k) (length p.sets)) 26 p
    (check (nat_lt (busy k p.transactions) 15) 27 p
    (check (nat_lt (length p.transactions) 512) 28 p
    (told (suc (length p.transactions)), with_begun k p))))

-- read of j, with the snapshot b and the own writes u: 3; the own write, else the snapshot's value
abbrev pub read_of : ℕ → Plain → Board → Pairs → Outcome
read_of j p b u = check (nat_lt j 128) 3 p (told (over (lookup u j) (value b j)), p)

-- write of v to j by t: 3, 5, 30
abbrev pub write_of : ℕ → ℕ → ℕ → Plain → Board → Pairs → Outcome
write_of t j v p b u =
    check (nat_lt j 128) 3 p
    (check (nat_le v (top j)) 5 p
    (check (room j u) 30 p
    (done, with_transaction p t (in_state (live b (put j v u)) (transaction p t)))))

-- write set m is numbered above s and clashes with u
abbrev pub clashes : List Numbered → ℕ → Pairs → ℕ → Bool
clashes N s u m = nat_lt s m && clash (pairs N m) u

-- the own writes u of t get the next number, and t is pending
abbrev pub register : ℕ → Pairs → Plain → Plain
register t u p =
    record {
      start = p.start;
      sets = p.sets ++ record { who = t; home = (transaction p t).home; s = (transaction p t).s; pairs = u } ∷ [];
      boards = p.boards;
      applied = p.applied;
      transactions = slice_set p.transactions (t - 1) (in_state (pending (suc (length p.sets))) (transaction p t));
    }

-- the verdict by the lowest clash: where there is none, 31 or the next number; else an abort that names it
abbrev pub verdict : ℕ → ℕ → Pairs → Plain → Outcome
verdict zero t u p = check (nat_lt (length p.sets) 256) 31 p (told (suc (length p.sets)), register t u p)
verdict (suc m) t u p = (aborts (suc m), with_transaction p t (in_state aborted (transaction p t)))

-- commit of t: without own writes it is read-only, else validated
abbrev pub commit_of : ℕ → Plain → Board → Pairs → Outcome
commit_of t p b u =
    cond (is_empty u) (read_only, with_transaction p t (in_state committed (transaction p t)))
    (verdict (lowest (clashes p.sets (transaction p t).s u) (length p.sets)) t u p)

abbrev pub give_up_of : ℕ → Plain → Board → Pairs → Outcome
give_up_of t p b u = (done, with_transaction p t (in_state given_up (transaction p t)))
