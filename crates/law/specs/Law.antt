-- The law of whole queues, in the words of the queue.
use Rattle.std.specs.Prelude.{◌≡◌, ℕ, suc, ◌+◌, ◌<◌, ◌≤◌, min, true, false, not, List, [], ◌∷◌, length, is_some, None, slice_index_or}
use Rattle.calls.specs.declared.call.Call.TheVariants.{Begin, Read, Write, Commit, GiveUp, Apply, Drain, Value, State, WriteSet, Applied}
use Rattle.tickets.specs.Boards.{Board, value}
use Rattle.tickets.specs.WriteSets.{Pairs, lookup, over}
use Rattle.law.specs.Numbers.{count, whole, flag}
use Rattle.law.specs.Clashes.{Clashing}
use Rattle.law.specs.Writes.{listed}
use Rattle.law.specs.History.{Answer, accepted, Event, History}
use Rattle.law.specs.History.Answer.{done, told, values, read_only, aborts, refused, fault}
use Rattle.law.specs.History.Event.{event}
use Rattle.law.specs.Words.{Facts, facts, last_write, begun, given, write_set, is_applied, snapshot, snapshot_of_set, value_after, copy_value}
use Rattle.law.specs.Words.Fact.{drained}

-- Write set m is numbered above t's snapshot number, and clashes with t's writes
pub record Clash (h : Facts) (t m : ℕ) : Type 0 where
  pub later : snapshot h t < m
  pub given : m ≤ given h
  pub clashing : Clashing (write_set h m) (last_write h t)

-- A commit is answered with the next number where nothing clashes, and with an abort where something does, which names the lowest; a read-only one has no writes
abbrev pub Verdict : Facts → ℕ → Answer → Type 0
Verdict h t done = ⊥
Verdict h t (told n) = (n ≡ suc (given h)) × ((m : ℕ) → Clash h t m → ⊥) × ((j : ℕ) × (is_some (last_write h t j) ≡ true))
Verdict h t (values vs) = ⊥
Verdict h t read_only = (j : ℕ) → last_write h t j ≡ None
Verdict h t (aborts m) = Clash h t m × ((i : ℕ) → Clash h t i → m ≤ i)
Verdict h t (refused n vs) = Unit {0}
Verdict h t (fault n) = Unit {0}

-- The lower number m is lacking at k and clashes with n, so n has to wait for it there
pub record HoldsBack (h : Facts) (k n m : ℕ) : Type 0 where
  pub least : 1 ≤ m
  pub lower : m < n
  pub lacking : is_applied h k m ≡ false
  pub clashing : Clashing (write_set h m) (write_set h n)

-- The checks of an application of n at k, of K replicas: 1, 4, 32, 33
pub record Passes (K : ℕ) (h : Facts) (k n : ℕ) : Type 0 where
  pub replica : k < K
  pub least : 1 ≤ n
  pub given : n ≤ given h
  pub new : is_applied h k n ≡ false
  pub free : (m : ℕ) → HoldsBack h k n m → ⊥

-- An application is accepted exactly where it passes its checks; 33 names the lowest number that holds it back
pub record Application (K : ℕ) (h : Facts) (k n : ℕ) (a : Answer) : Type 0 where
  pub through : Passes K h k n → a ≡ done
  pub checked : accepted a ≡ true → Passes K h k n
  pub held : (vs : List ℕ) → a ≡ refused 33 vs → (m : ℕ) × (vs ≡ m ∷ []) × HoldsBack h k n m × ((i : ℕ) → HoldsBack h k n i → m ≤ i)

-- How many numbers are lacking at k
abbrev pub lacking : Facts → ℕ → ℕ
lacking h k = count (λ n. not (is_applied h k n)) (given h)

-- A drain answers the smaller of m and the count of the lacking, and by that the applied numbers grow
pub record Drainage (K : ℕ) (h : Facts) (k m : ℕ) (a : Answer) : Type 0 where
  pub through : k < K → a ≡ told (min m (lacking h k))
  pub checked : accepted a ≡ true → k < K
  pub grows : (r : ℕ) → a ≡ told r → count (is_applied (drained k m ∷ h) k) (given h) ≡ count (is_applied h k) (given h) + r

-- What holds of a call's answer, by what stands ahead of it in the queue
abbrev pub Right : Board → ℕ → Facts → Event → Type 0
Right start K h (event (Begin k) a) = (t : ℕ) → a ≡ told t → t ≡ suc (begun h)
Right start K h (event (Read t j) a) = accepted a ≡ true → a ≡ told (over (last_write h t j) (value_after start h (snapshot h t) j))
Right start K h (event (Write t j v) a) = Unit {0}
Right start K h (event (Commit t) a) = Verdict h t a
Right start K h (event (GiveUp t) a) = Unit {0}
Right start K h (event (Apply k n) a) = Application K h k n a
Right start K h (event (Drain k m) a) = Drainage K h k m a
Right start K h (event (Value k j) a) = accepted a ≡ true → a ≡ told (copy_value start h k j)
Right start K h (event (State t) a) = accepted a ≡ true → (vs : List ℕ) × (a ≡ values (snapshot h t ∷ vs))
Right start K h (event (WriteSet n) a) = accepted a ≡ true → (home : ℕ) × (u : Pairs) × (a ≡ values (home ∷ snapshot_of_set h n ∷ listed u)) × ((j : ℕ) → lookup u j ≡ write_set h n j)
Right start K h (event (Applied k) a) = accepted a ≡ true → a ≡ values (count (is_applied h k) (given h) ∷ flag (whole (is_applied h k) (given h)) ∷ [])

abbrev pub AllRight : Board → ℕ → History → Type 0
AllRight start K [] = Unit {0}
AllRight start K (e ∷ h) = Right start K (facts h) e × AllRight start K h

-- K replicas that began with the board start, a queue's history, and the replicas' copies after it
pub record Law (start : Board) (K : ℕ) (h : History) (copies : List Board) : Type 0 where
  pub replicas : length copies ≡ K
  pub objects : (k : ℕ) → k < K → length (slice_index_or copies k []) ≡ 128
  -- each copy is the starting board with exactly the write sets applied there, played in number order
  pub played : (k : ℕ) → k < K → (j : ℕ) → j < 128 → value (slice_index_or copies k []) j ≡ copy_value start (facts h) k j
  -- reads, verdicts, applications, drains and questions
  pub answers : AllRight start K h
