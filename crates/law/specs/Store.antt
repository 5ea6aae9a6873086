-- The meaning of a local store, with the own writes of its places as pairs, and what each of its functions does to it.
use Rattle.std.specs.Prelude.{◌≡◌, ℕ, suc, ◌≤◌, Bool, true, false, cond, ◌||◌, List, [], ◌∷◌, length, Some, None, Option, ◌==◌, nat_lt, slice_index_or, slice_set}
use Rattle.tickets.specs.Boards.{Board, value}
use Rattle.tickets.specs.WriteSets.{Pairs, lookup, stands, play, over}
use Rattle.law.specs.Numbers.{tally}
use Rattle.law.specs.Writes.{put, room, is_empty}

-- an open place: the board at its begin, what it wrote itself, and the objects that others have overwritten since
pub record Place : Type 0 where
  pub snapshot : Board
  pub own : Pairs
  pub overtaken : ℕ → Bool

-- commits counts those that wrote, most is how many the store takes
pub record Store : Type 0 where
  pub board : Board
  pub commits : ℕ
  pub most : ℕ
  pub places : List (Option Place)

-- what every store keeps: as much as the middleware leans on
pub record Lawful (σ : Store) : Type 0 where
  pub whole : length σ.board ≡ 128
  pub least_most : 256 ≤ σ.most
  pub least_places : 16 ≤ length σ.places

abbrev pub is_open : Option Place → Bool
is_open None = false
is_open (Some x) = true

abbrev pub open_count : List (Option Place) → ℕ
open_count l = tally is_open l

abbrev pub place : Store → ℕ → Option Place
place σ i = slice_index_or σ.places i None

abbrev pub with_place : Store → ℕ → Option Place → Store
with_place σ i o = record { board = σ.board; commits = σ.commits; most = σ.most; places = slice_set σ.places i o }

-- what comes of a call that may change a store: the store after it, or a fault's number and what that leaves
pub data Done : Type 0 where
  fine : Store → Done
  failed : ℕ → Store → Done

-- what comes of a read: a value, or a fault's number
pub data Got : Type 0 where
  got : ℕ → Got
  bad : ℕ → Got

-- what is told of the own writes: all of them, or a fault's number
pub data Owned : Type 0 where
  owns : Pairs → Owned
  ownless : ℕ → Owned

abbrev pub next : Done → (Store → Done) → Done
next (fine σ) f = f σ
next (failed n σ) f = failed n σ

-- the check 6
abbrev pub in_range : Store → ℕ → Done → Done
in_range σ i d = cond (nat_lt i (length σ.places)) d (failed 6 σ)

-- begin: 6, 36
abbrev pub fresh : Board → Place
fresh b = record { snapshot = b; own = []; overtaken = λ _. false }

abbrev pub begin_in : Option Place → Store → ℕ → Done
begin_in None σ i = fine (with_place σ i (Some (fresh σ.board)))
begin_in (Some x) σ i = failed 36 σ

abbrev pub store_begin : Store → ℕ → Done
store_begin σ i = in_range σ i (begin_in (place σ i) σ i)

-- read: 6, 37, 3
abbrev pub read_in : Option Place → ℕ → Got
read_in None j = bad 37
read_in (Some x) j = cond (nat_lt j 128) (got (over (lookup x.own j) (value x.snapshot j))) (bad 3)

abbrev pub store_read : Store → ℕ → ℕ → Got
store_read σ i j = cond (nat_lt i (length σ.places)) (read_in (place σ i) j) (bad 6)

-- write: 6, 37, 3, 30
abbrev pub writes : ℕ → ℕ → Place → Place
writes j v x = record { snapshot = x.snapshot; own = put j v x.own; overtaken = x.overtaken }

abbrev pub write_in : Option Place → Store → ℕ → ℕ → ℕ → Done
write_in None σ i j v = failed 37 σ
write_in (Some x) σ i j v = cond (nat_lt j 128) (cond (room j x.own) (fine (with_place σ i (Some (writes j v x)))) (failed 30 σ)) (failed 3 σ)

abbrev pub store_write : Store → ℕ → ℕ → ℕ → Done
store_write σ i j v = in_range σ i (write_in (place σ i) σ i j v)

-- the own writes, told one by one: 6, 37
abbrev pub snapshot_of : Option Place → Board
snapshot_of None = []
snapshot_of (Some x) = x.snapshot

abbrev pub own_of : Option Place → Pairs
own_of None = []
own_of (Some x) = x.own

abbrev pub own_in : Option Place → Owned
own_in None = ownless 37
own_in (Some x) = owns x.own

abbrev pub store_own : Store → ℕ → Owned
store_own σ i = cond (nat_lt i (length σ.places)) (own_in (place σ i)) (ownless 6)

-- commit: 6, 37, 34, 35
abbrev pub is_overtaken : Pairs → (ℕ → Bool) → Bool
is_overtaken [] f = false
is_overtaken ((j, v) ∷ u) f = f j || is_overtaken u f

abbrev pub overtake : Pairs → Place → Place
overtake u x = record { snapshot = x.snapshot; own = x.own; overtaken = λ j. stands u j || x.overtaken j }

abbrev pub overtake_in : Pairs → Option Place → Option Place
overtake_in u None = None
overtake_in u (Some x) = Some (overtake u x)

abbrev pub overtake_all : Pairs → List (Option Place) → List (Option Place)
overtake_all u [] = []
overtake_all u (o ∷ l) = overtake_in u o ∷ overtake_all u l

abbrev pub commit_in : Option Place → Store → ℕ → Done
commit_in None σ i = failed 37 σ
commit_in (Some x) σ i =
    cond (is_empty x.own) (fine (with_place σ i None))
    (cond (is_overtaken x.own x.overtaken) (failed 34 (with_place σ i None))
    (cond (σ.commits == σ.most) (failed 35 σ)
    (fine (record { board = play x.own σ.board; commits = suc σ.commits; most = σ.most; places = slice_set (overtake_all x.own σ.places) i None }))))

abbrev pub store_commit : Store → ℕ → Done
store_commit σ i = in_range σ i (commit_in (place σ i) σ i)

-- abort: 6, 37
abbrev pub abort_in : Option Place → Store → ℕ → Done
abort_in None σ i = failed 37 σ
abort_in (Some x) σ i = fine (with_place σ i None)

abbrev pub store_abort : Store → ℕ → Done
store_abort σ i = in_range σ i (abort_in (place σ i) σ i)

-- a write set from elsewhere: a place is begun, written and committed
abbrev pub store_write_all : Pairs → ℕ → Store → Done
store_write_all [] i σ = fine σ
store_write_all ((j, v) ∷ u) i σ = next (store_write σ i j v) (store_write_all u i)

abbrev pub store_play : Pairs → ℕ → Store → Done
store_play u i σ = next (store_begin σ i) (λ a. next (store_write_all u i a) (λ b. store_commit b i))
