-- The words of a queue, read from it alone: its calls in order, with their answers.
use Rattle.std.specs.Prelude.{ℕ, zero, suc, ◌-◌, Bool, true, false, cond, not, ◌&&◌, ◌||◌, List, [], ◌∷◌, Some, None, Option, ◌==◌, nat_lt}
use Rattle.std.specs.Option.{option_map}
use Rattle.calls.specs.declared.call.Call.TheVariants.{Begin, Read, Write, Commit, GiveUp, Apply, Drain, Value, State, WriteSet, Applied}
use Rattle.tickets.specs.Boards.{Board, value}
use Rattle.tickets.specs.WriteSets.{over}
use Rattle.law.specs.Numbers.{up_to, count}
use Rattle.law.specs.History.{Answer, accepted, number_told, Event, History}
use Rattle.law.specs.History.Event.{event}

-- What an accepted call establishes: t began at k; t wrote v to j; t's writes became write set n; n was applied at k;
-- of the numbers lacking at k the lowest m, or all if fewer, were applied there
pub data Fact : Type 0 where
  began : (k t : ℕ) → Fact
  wrote : (t j v : ℕ) → Fact
  numbered : (t n : ℕ) → Fact
  applied : (k n : ℕ) → Fact
  drained : (k m : ℕ) → Fact

abbrev pub if_accepted : Answer → Fact → Option Fact
if_accepted a f = cond (accepted a) (Some f) None

abbrev pub fact : Event → Option Fact
fact (event (Begin k) a) = option_map (began k) (number_told a)
fact (event (Read t j) a) = None
fact (event (Write t j v) a) = if_accepted a (wrote t j v)
fact (event (Commit t) a) = option_map (numbered t) (number_told a)
fact (event (GiveUp t) a) = None
fact (event (Apply k n) a) = if_accepted a (applied k n)
fact (event (Drain k m) a) = if_accepted a (drained k m)
fact (event (Value k j) a) = None
fact (event (State t) a) = None
fact (event (WriteSet n) a) = None
fact (event (Applied k) a) = None

-- the newest fact stands in front
abbrev pub Facts : Type 0
Facts = List Fact

abbrev pub noted : Option Fact → Facts → Facts
noted None h = h
noted (Some f) h = f ∷ h

abbrev pub facts : History → Facts
facts [] = []
facts (e ∷ h) = noted (fact e) (facts h)

-- The last write of t to the object j
abbrev pub last_write : Facts → ℕ → ℕ → Option ℕ
last_write [] t j = None
last_write (wrote t' j' v ∷ h) t j = cond (t == t' && j == j') (Some v) (last_write h t j)
last_write (began k t' ∷ h) t j = last_write h t j
last_write (numbered t' n ∷ h) t j = last_write h t j
last_write (applied k n ∷ h) t j = last_write h t j
last_write (drained k m ∷ h) t j = last_write h t j

-- How many transactions have begun
abbrev pub begun : Facts → ℕ
begun [] = 0
begun (began k t ∷ h) = suc (begun h)
begun (wrote t j v ∷ h) = begun h
begun (numbered t n ∷ h) = begun h
begun (applied k n ∷ h) = begun h
begun (drained k m ∷ h) = begun h

-- How many write sets are numbered
abbrev pub given : Facts → ℕ
given [] = 0
given (numbered t n ∷ h) = suc (given h)
given (began k t ∷ h) = given h
given (wrote t j v ∷ h) = given h
given (applied k n ∷ h) = given h
given (drained k m ∷ h) = given h

-- The value that write set n has for the object j, if any: its transaction's last write when it asked
abbrev pub write_set : Facts → ℕ → ℕ → Option ℕ
write_set [] n j = None
write_set (numbered t n' ∷ h) n j = cond (n == n') (last_write h t j) (write_set h n j)
write_set (began k t ∷ h) n j = write_set h n j
write_set (wrote t j' v ∷ h) n j = write_set h n j
write_set (applied k n' ∷ h) n j = write_set h n j
write_set (drained k m ∷ h) n j = write_set h n j

-- n is one of the lowest m among those of 1 to G that f lacks
abbrev pub lowest_few : (ℕ → Bool) → ℕ → ℕ → ℕ → Bool
lowest_few f G m n = up_to G n && (not (f n) && nat_lt (count (λ i. not (f i)) (n - 1)) m)

-- Write set n is applied at k
abbrev pub is_applied : Facts → ℕ → ℕ → Bool
is_applied [] k n = false
is_applied (applied k' n' ∷ h) k n = (k == k' && n == n') || is_applied h k n
is_applied (drained k' m ∷ h) k n = (k == k' && lowest_few (is_applied h k) (given h) m n) || is_applied h k n
is_applied (began k' t ∷ h) k n = is_applied h k n
is_applied (wrote t j v ∷ h) k n = is_applied h k n
is_applied (numbered t n' ∷ h) k n = is_applied h k n

-- The snapshot number of t: how many write sets were applied at its home when it began
abbrev pub snapshot : Facts → ℕ → ℕ
snapshot [] t = 0
snapshot (began k t' ∷ h) t = cond (t == t') (count (is_applied h k) (given h)) (snapshot h t)
snapshot (wrote t' j v ∷ h) t = snapshot h t
snapshot (numbered t' n ∷ h) t = snapshot h t
snapshot (applied k n ∷ h) t = snapshot h t
snapshot (drained k m ∷ h) t = snapshot h t

-- The snapshot number of write set n's transaction
abbrev pub snapshot_of_set : Facts → ℕ → ℕ
snapshot_of_set [] n = 0
snapshot_of_set (numbered t n' ∷ h) n = cond (n == n') (snapshot h t) (snapshot_of_set h n)
snapshot_of_set (began k t ∷ h) n = snapshot_of_set h n
snapshot_of_set (wrote t j v ∷ h) n = snapshot_of_set h n
snapshot_of_set (applied k n' ∷ h) n = snapshot_of_set h n
snapshot_of_set (drained k m ∷ h) n = snapshot_of_set h n

-- The value of j where those of the write sets 1 to n that f passes are played in number order over the values b
abbrev pub layers : (ℕ → Bool) → (ℕ → ℕ → Option ℕ) → (ℕ → ℕ) → ℕ → ℕ → ℕ
layers f w b zero j = b j
layers f w b (suc n) j = cond (f (suc n)) (over (w (suc n) j) (layers f w b n j)) (layers f w b n j)

-- The value of j after write sets 1 to s
abbrev pub value_after : Board → Facts → ℕ → ℕ → ℕ
value_after start h s j = layers (λ _. true) (write_set h) (value start) s j

-- The value of j at k: the starting board with exactly the write sets applied at k, played in number order
abbrev pub copy_value : Board → Facts → ℕ → ℕ → ℕ
copy_value start h k j = layers (is_applied h k) (write_set h) (value start) (given h) j
