-- What commit answers and leaves.
use Rattle.std.specs.Prelude.{ℕ, ◌+◌, false, cond, [], ◌∷◌, ◌++◌, length, replicate, Some, None, Option, Result, nat_lt}
use Rattle.tickets.specs.WriteSets.{Pairs}
use Rattle.banks.specs.Model.{asked}
use Rattle.ledger.specs.declared.verdict.Verdict.{Verdict}
use Rattle.ledger.specs.declared.verdict.Verdict.TheVariants.{ReadOnly, Numbered, Clash}
use Rattle.ledger.specs.declared.transaction.Transaction.{Transaction}
use Rattle.ledger.specs.declared.transaction.Event.TheVariants.{Commit}
use Rattle.errands.specs.Outcomes.{done, refused, look, step}
use Rattle.ledger.specs.Sets.{lowest_clash}
use Rattle.errands.specs.Own.{own_answer}
use Rattle.errands.specs.Replay.{commit_at, abort_at}
use Rattle.machine.specs.declared.reason.Reason.{Reason}
use Rattle.machine.specs.declared.reason.Reason.TheVariants.{WriteSetsGiven}
use Rattle.machine.specs.Machine.{Machine, Came, with_sets, told, raised, through, taking}

-- the own writes of transaction x, as its place tells them
abbrev pub own_of : Machine → Transaction → Result (Option Pairs) Reason
own_of b x = raised (asked b.stores x.home (λ m. own_answer m x.place))

-- the verdict is the answer, and transaction t takes it
abbrev pub judged : Machine → ℕ → Verdict → Came Verdict
judged b t v = done v (told b t (Commit v))

-- nothing was written: the place is committed, which frees it
abbrev pub end_reading : Machine → ℕ → Transaction → Came Verdict
end_reading b t x = step (through b (commit_at x.home x.place b.stores)) (λ _ b'. judged b' t ReadOnly)

-- number n stands in the way: the place is aborted
abbrev pub end_clashing : Machine → ℕ → Transaction → ℕ → Came Verdict
end_clashing b t x n = step (through b (abort_at x.home x.place b.stores)) (λ _ b'. judged b' t (Clash n))

-- the write set u of transaction t, which is x, with the next number, from 1
abbrev pub numbered : Machine → ℕ → Transaction → Pairs → Machine
numbered b t x u = with_sets b (b.sets ++ record { home = x.home; s = x.s; transaction = t; pairs = u; applied = replicate 8 false } ∷ [])

-- 31
abbrev pub register : Machine → ℕ → Transaction → Pairs → Came Verdict
register b t x u = cond (nat_lt (length b.sets) 256) (judged (numbered b t x u) t (Numbered (length b.sets + 1))) (refused WriteSetsGiven b)

-- by the lowest clash, if any
abbrev pub by_clash : Machine → ℕ → Transaction → Pairs → Option ℕ → Came Verdict
by_clash b t x u None = register b t x u
by_clash b t x u (Some n) = end_clashing b t x n

abbrev pub validated : Machine → ℕ → Transaction → Pairs → Came Verdict
validated b t x u = by_clash b t x u (lowest_clash b.sets x.s u)

-- by the own writes, if any
abbrev pub by_own : Machine → ℕ → Transaction → Option Pairs → Came Verdict
by_own b t x None = end_reading b t x
by_own b t x (Some u) = validated b t x u

-- 20, 2, 29 (whether a commit is taken does not hang on its verdict), then read-only, clash, 31 or a number
abbrev pub committing : Machine → ℕ → Came Verdict
committing b t = look (taking b t (Commit ReadOnly)) b (λ x. look (own_of b x) b (by_own b t x))
