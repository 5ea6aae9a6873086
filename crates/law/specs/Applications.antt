-- The plain board's apply and drain.
use Rattle.std.specs.Prelude.{ℕ, zero, suc, ◌-◌, min, Bool, cond, not, ◌&&◌, ◌||◌, List, [], ◌∷◌, length, ◌==◌, nat_lt, slice_set}
use Rattle.tickets.specs.WriteSets.{play}
use Rattle.law.specs.Numbers.{up_to, count, lowest}
use Rattle.law.specs.Clashes.{clash}
use Rattle.law.specs.History.Answer.{done, told, refused}
use Rattle.law.specs.Plain.{Numbered, Plain, Outcome, transaction, numbered, pairs, board, check, in_state}
use Rattle.law.specs.Plain.TransactionState.{committed}

-- n is applied at k, besides what was
abbrev pub marked : ℕ → ℕ → (ℕ → ℕ → Bool) → ℕ → ℕ → Bool
marked k n A i o = i == k && o == n || A i o

-- write set n is played over k's board; at home its transaction is committed
abbrev pub played_at : ℕ → ℕ → Plain → Plain
played_at k n p =
    record {
      start = p.start;
      sets = p.sets;
      boards = slice_set p.boards k (play (pairs p.sets n) (board p k));
      applied = marked k n p.applied;
      transactions = cond (k == (numbered p.sets n).home) (slice_set p.transactions ((numbered p.sets n).who - 1) (in_state committed (transaction p (numbered p.sets n).who))) p.transactions;
    }

-- n is lacking, where f says what is applied
abbrev pub lacks : (ℕ → Bool) → ℕ → Bool
lacks f n = not (f n)

-- m holds n back: it is lacking and clashes with n
abbrev pub holds : (ℕ → Bool) → List Numbered → ℕ → ℕ → Bool
holds f N n m = lacks f m && clash (pairs N m) (pairs N n)

-- the check 33, by the lowest number that holds back
abbrev pub unless_held : ℕ → Plain → Outcome → Outcome
unless_held zero p o = o
unless_held (suc m) p o = (refused 33 (suc m ∷ []), p)

-- apply n at k: 1, 4, 32, 33
abbrev pub apply_at : ℕ → ℕ → Plain → Outcome
apply_at k n p =
    check (nat_lt k (length p.boards)) 1 p
    (check (up_to (length p.sets) n) 4 p
    (check (lacks (p.applied k) n) 32 p
    (unless_held (lowest (holds (p.applied k) p.sets n) (n - 1)) p (done, played_at k n p))))

abbrev pub on_number : ℕ → Plain → (ℕ → Plain) → Plain
on_number zero p f = p
on_number (suc n) p f = f (suc n)

-- the lowest lacking number is applied at k, again and again, at most m times
abbrev pub drained : ℕ → ℕ → Plain → Plain
drained k zero p = p
drained k (suc m) p = on_number (lowest (lacks (p.applied k)) (length p.sets)) p (λ n. drained k m (played_at k n p))

-- drain of k, m: 1; the smaller of m and the count of the lacking
abbrev pub drain_at : ℕ → ℕ → Plain → Outcome
drain_at k m p = check (nat_lt k (length p.boards)) 1 p (told (min m (count (lacks (p.applied k)) (length p.sets))), drained k m p)
