-- What apply and drain answer and leave.
use Rattle.std.specs.Prelude.{ℕ, zero, suc, ◌+◌, ◌-◌, cond, Some, None, Ok, Err, Option, Result, ◌==◌, slice_set}
use Rattle.tickets.specs.WriteSets.{Pairs}
use Rattle.ledger.specs.declared.transaction.Event.TheVariants.{Applied}
use Rattle.errands.specs.Outcomes.{done, look, step}
use Rattle.ledger.specs.Transactions.{nth_transaction}
use Rattle.ledger.specs.Sets.{SetModel, nth_set, is_applied, marked_set, lowest_holding, lowest_unapplied}
use Rattle.errands.specs.Places.{vacant}
use Rattle.errands.specs.Replay.{commit_at, replay}
use Rattle.machine.specs.declared.reason.Reason.{Reason}
use Rattle.machine.specs.declared.reason.Reason.TheVariants.{AlreadyApplied, HeldBack}
use Rattle.machine.specs.Machine.{Machine, Came, with_sets, told, bind, through, replica_at, set_at}

-- ---- the checks

-- 33
abbrev pub unless_held : Option ℕ → ℕ → Result ℕ Reason
unless_held None n = Ok n
unless_held (Some m) n = Err (HeldBack m)

-- 32, 33
abbrev pub free_at : Machine → ℕ → ℕ → SetModel → Result ℕ Reason
free_at b k n x = cond (is_applied k x) (Err AlreadyApplied) (unless_held (lowest_holding b.sets k (n - 1) x.pairs) n)

-- 4, 32, 33: the number, where it may be applied at k
abbrev pub applicable : Machine → ℕ → ℕ → Result ℕ Reason
applicable b k n = bind (set_at b n) (free_at b k n)

-- ---- write set n played at replica k

-- number n is marked as applied at k
abbrev pub marked : Machine → ℕ → ℕ → Machine
marked b k n = with_sets b (slice_set b.sets (n - 1) (marked_set k (nth_set b.sets n)))

-- at home the own place of its transaction t is committed
abbrev pub play_home : Machine → ℕ → ℕ → ℕ → Came (Unit {0})
play_home b k n t =
    step (through b (commit_at k (nth_transaction b.txns t).place b.stores)) (λ _ b'.
    done tt (told (marked b' k n) t Applied))

-- elsewhere a place is begun, written and committed
abbrev pub play_away : Machine → ℕ → ℕ → Pairs → Came (Unit {0})
play_away b k n u =
    step (through b (replay k (vacant b.stores k) u b.stores)) (λ _ b'.
    done tt (marked b' k n))

abbrev pub play_set : Machine → ℕ → ℕ → SetModel → Came (Unit {0})
play_set b k n x = cond (x.home == k) (play_home b k n x.transaction) (play_away b k n x.pairs)

unfoldable pub playing : Machine → ℕ → ℕ → Came (Unit {0})
playing b k n = play_set b k n (nth_set b.sets n)

-- ---- apply

-- 20, 1, 4, 32, 33
abbrev pub applying : Machine → ℕ → ℕ → Came (Unit {0})
applying b k n = look (replica_at b k) b (λ h. look (applicable b h n) b (playing b h))

-- ---- drain

abbrev pub on_lowest : Option ℕ → ℕ → Machine → (ℕ → Came ℕ) → Came ℕ
on_lowest None made b f = done made b
on_lowest (Some n) made b f = f n

-- the lowest unapplied number is played, again and again, at most so many times; the answer counts on from those made before
unfoldable pub drained : ℕ → ℕ → ℕ → Machine → Came ℕ
drained k zero made b = done made b
drained k (suc m) made b =
    on_lowest (lowest_unapplied b.sets k) made b (λ n.
    step (playing b k n) (λ _. drained k m (made + 1)))

-- 20, 1
abbrev pub draining : Machine → ℕ → ℕ → Came ℕ
draining b k m = look (replica_at b k) b (λ h. drained h m 0 b)
