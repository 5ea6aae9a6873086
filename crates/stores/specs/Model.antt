-- What a store means: its board, its commits, the most that it takes, and its places; and what each call answers and leaves.
use Rattle.std.specs.Prelude.{◌≡◌, ℕ, zero, suc, ◌+◌, ◌-◌, ◌≤◌, Bool, false, cond, ◌&&◌, ◌||◌, List, [], ◌∷◌, map, length, is_some, Some, None, Ok, Err, Option, Result, ◌==◌, nat_lt, slice_index, slice_index_or, slice_set}
use Rattle.stores.specs.declared.fault.StoreFault.{StoreFault}
use Rattle.stores.specs.declared.fault.StoreFault.TheVariants.{NoPlace, PlaceClosed, PlaceOpen, NoObject, NinthObject, Overtaken, Full}
use Rattle.tickets.specs.declared.pair.Pair.{Pair}

-- An open place: the board at its begin, what it wrote itself, and the objects that others have overwritten since.
pub record Place : Type 0 where
  pub snapshot : List ℕ
  pub own : ℕ → Option ℕ
  pub overtaken : ℕ → Bool

pub record StoreModel : Type 0 where
  pub board : List ℕ
  pub commits : ℕ
  pub most : ℕ
  pub places : List (Option Place)

-- ---- own writes

abbrev pub or_else : Option ℕ → ℕ → ℕ
or_else (Some v) x = v
or_else None x = x

abbrev pub no_writes : ℕ → Option ℕ
no_writes j = None

abbrev pub nothing : ℕ → Bool
nothing j = false

-- own writes with object j at v
abbrev pub with_write : (ℕ → Option ℕ) → ℕ → ℕ → ℕ → Option ℕ
with_write own j v = λ k. cond (k == j) (Some v) (own k)

-- how many of the objects below n are marked
unfoldable pub count_below : (ℕ → Bool) → ℕ → ℕ
count_below f zero = 0
count_below f (suc n) = cond (f n) 1 0 + count_below f n

-- whether some object below n is marked
unfoldable pub any_below : (ℕ → Bool) → ℕ → Bool
any_below f zero = false
any_below f (suc n) = f n || any_below f n

abbrev pub told_or : ℕ → Option ℕ → Option Pair → Option Pair
told_or j (Some v) rest = Some (record { object = j; value = v })
told_or j None rest = rest

-- the first own write among the n objects from j on
unfoldable pub first_from : (ℕ → Option ℕ) → ℕ → ℕ → Option Pair
first_from own j zero = None
first_from own j (suc n) = told_or j (own j) (first_from own (j + 1) n)

abbrev pub written : Place → ℕ → Bool
written pl = λ j. is_some (pl.own j)

abbrev pub own_count : Place → ℕ
own_count pl = count_below (written pl) 128

abbrev pub clashes : Place → Bool
clashes pl = any_below (λ j. written pl j && pl.overtaken j) 128

-- own writes played over the objects from i on
unfoldable pub played_from : (ℕ → Option ℕ) → ℕ → List ℕ → List ℕ
played_from own i [] = []
played_from own i (x ∷ xs) = or_else (own i) x ∷ played_from own (suc i) xs

unfoldable pub played : (ℕ → Option ℕ) → List ℕ → List ℕ
played own board = played_from own 0 board

-- ---- answers

-- what comes after, where nothing is refused
abbrev pub bind : {A B : Type 0} → Result A StoreFault → (A → Result B StoreFault) → Result B StoreFault
bind (Ok a) f = f a
bind (Err e) f = Err e

-- that it is done, or the refusal
abbrev pub done : {A : Type 0} → Result A StoreFault → Result (Unit {0}) StoreFault
done (Ok a) = Ok tt
done (Err e) = Err e

-- what is left: `f`'s where nothing is refused, else `m`
abbrev pub leaves : {A : Type 0} → Result A StoreFault → (A → StoreModel) → StoreModel → StoreModel
leaves (Ok a) f m = f a
leaves (Err e) f m = m

-- a place after a change: the new one, or as it was where the change is refused
abbrev pub kept : Result Place StoreFault → Place → Place
kept (Ok new) old = new
kept (Err e) old = old

-- ---- places

-- what stands in a seat that is open
abbrev pub held : {P : Type 0} → Option P → Result P StoreFault
held (Some pl) = Ok pl
held None = Err PlaceClosed

-- that a seat is not open
abbrev pub vacant : {P : Type 0} → Option P → Result (Unit {0}) StoreFault
vacant (Some pl) = Err PlaceOpen
vacant None = Ok tt

-- `f`'s answer at the seat of a place; past the last seat there is no place
abbrev pub seat_in : {P A : Type 0} → List (Option P) → ℕ → (Option P → Result A StoreFault) → Result A StoreFault
seat_in seats p f = cond (nat_lt p (length seats)) (f (slice_index_or seats p None)) (Err NoPlace)

abbrev pub seat_at : {A : Type 0} → StoreModel → ℕ → (Option Place → Result A StoreFault) → Result A StoreFault
seat_at m p f = seat_in m.places p f

abbrev pub place_at : StoreModel → ℕ → Result Place StoreFault
place_at m p = seat_at m p held

abbrev pub with_place : StoreModel → ℕ → Option Place → StoreModel
with_place m p pl = record { board = m.board; commits = m.commits; most = m.most; places = slice_set m.places p pl }

-- ---- begin

abbrev pub fresh : List ℕ → Place
fresh board = record { snapshot = board; own = no_writes; overtaken = nothing }

abbrev pub begin_answer : StoreModel → ℕ → Result (Unit {0}) StoreFault
begin_answer m p = seat_at m p vacant

abbrev pub begin_after : StoreModel → ℕ → StoreModel
begin_after m p = leaves (begin_answer m p) (λ _. with_place m p (Some (fresh m.board))) m

-- ---- read

abbrev pub read_at : ℕ → Place → Result ℕ StoreFault
read_at j pl = cond (nat_lt j 128) (Ok (or_else (pl.own j) (slice_index pl.snapshot j))) (Err NoObject)

abbrev pub read_answer : StoreModel → ℕ → ℕ → Result ℕ StoreFault
read_answer m p j = bind (place_at m p) (read_at j)

-- ---- write

abbrev pub with_own : Place → ℕ → ℕ → Place
with_own pl j v = record { snapshot = pl.snapshot; own = with_write pl.own j v; overtaken = pl.overtaken }

abbrev pub write_at : ℕ → ℕ → Place → Result Place StoreFault
write_at j v pl = cond (nat_lt j 128) (cond (written pl j || nat_lt (own_count pl) 8) (Ok (with_own pl j v)) (Err NinthObject)) (Err NoObject)

abbrev pub write_place : StoreModel → ℕ → ℕ → ℕ → Result Place StoreFault
write_place m p j v = bind (place_at m p) (write_at j v)

abbrev pub write_answer : StoreModel → ℕ → ℕ → ℕ → Result (Unit {0}) StoreFault
write_answer m p j v = done (write_place m p j v)

abbrev pub write_after : StoreModel → ℕ → ℕ → ℕ → StoreModel
write_after m p j v = leaves (write_place m p j v) (λ pl. with_place m p (Some pl)) m

-- ---- own writes, counted and told

abbrev pub count_answer : StoreModel → ℕ → Result ℕ StoreFault
count_answer m p = bind (place_at m p) (λ pl. Ok (own_count pl))

abbrev pub told_answer : StoreModel → ℕ → ℕ → Result (Option Pair) StoreFault
told_answer m p j = bind (place_at m p) (λ pl. Ok (first_from pl.own j (128 - j)))

-- ---- commit

abbrev pub overtaken_by : (ℕ → Bool) → Option Place → Option Place
overtaken_by w None = None
overtaken_by w (Some pl) = Some (record { snapshot = pl.snapshot; own = pl.own; overtaken = λ j. pl.overtaken j || w j })

-- the board and the open places after these writes
abbrev pub spread : StoreModel → (ℕ → Option ℕ) → StoreModel
spread m own = record {
  board = played own m.board;
  commits = m.commits + 1;
  most = m.most;
  places = map (overtaken_by (λ j. is_some (own j))) m.places;
}

abbrev pub landed : StoreModel → ℕ → Place → StoreModel
landed m p pl = with_place (spread m pl.own) p None

abbrev pub commit_at : StoreModel → Place → Result (Unit {0}) StoreFault
commit_at m pl = cond (own_count pl == 0) (Ok tt) (cond (clashes pl) (Err Overtaken) (cond (m.commits == m.most) (Err Full) (Ok tt)))

abbrev pub commit_answer : StoreModel → ℕ → Result (Unit {0}) StoreFault
commit_answer m p = bind (place_at m p) (commit_at m)

abbrev pub commit_left : StoreModel → ℕ → Place → StoreModel
commit_left m p pl =
    cond (own_count pl == 0) (with_place m p None) (cond (clashes pl) (with_place m p None) (cond (m.commits == m.most) m (landed m p pl)))

abbrev pub commit_after : StoreModel → ℕ → StoreModel
commit_after m p = leaves (place_at m p) (commit_left m p) m

-- ---- abort, and the questions

abbrev pub abort_answer : StoreModel → ℕ → Result (Unit {0}) StoreFault
abort_answer m p = done (place_at m p)

abbrev pub abort_after : StoreModel → ℕ → StoreModel
abort_after m p = leaves (place_at m p) (λ _. with_place m p None) m

abbrev pub value_answer : StoreModel → ℕ → Result ℕ StoreFault
value_answer m j = cond (nat_lt j 128) (Ok (slice_index m.board j)) (Err NoObject)

abbrev pub open_answer : StoreModel → ℕ → Result Bool StoreFault
open_answer m p = seat_at m p (λ o. Ok (is_some o))

-- ---- what every store keeps

-- own writes are to at most eight objects, all below 128
abbrev pub OwnLawful : Option Place → Type 0
OwnLawful None = Unit {0}
OwnLawful (Some pl) = (own_count pl ≤ 8) × ((j : ℕ) → 128 ≤ j → pl.own j ≡ None)

pub record Lawful (m : StoreModel) : Type 0 where
  pub whole : length m.board ≡ 128
  pub least_places : 16 ≤ length m.places
  pub most_places : length m.places ≤ 64
  pub least_most : 256 ≤ m.most
  pub greatest_most : m.most ≤ 65535
  pub within : m.commits ≤ m.most
  pub own : (p : ℕ) → OwnLawful (slice_index_or m.places p None)
