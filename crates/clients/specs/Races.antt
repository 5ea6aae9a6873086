-- Two places opened on the same board, each with a write set to commit: the first committer wins.
use Rattle.std.specs.Prelude.{◌≡◌, ℕ, ◌<◌, true, cond, Ok, Err, Result, ◌==◌, ◌≢◌}
use Rattle.tickets.specs.WriteSets.{Pairs, shares}
use Rattle.tickets.specs.Meaning.{pairs}
use Rattle.stores.specs.declared.fault.StoreFault.{StoreFault}
use Rattle.stores.specs.declared.fault.StoreFault.TheVariants.{Overtaken, PlaceOpen}
use Rattle.stores.specs.Model.{StoreModel, bind, leaves, begin_answer, commit_answer}
use Rattle.clients.specs.declared.race.Entry.{Entry}
use Rattle.clients.specs.declared.race.Order.{Order}
use Rattle.clients.specs.declared.race.Order.TheVariants.{LeftFirst, RightFirst}
use Rattle.clients.specs.declared.race.Race.{Race}
use Rattle.clients.specs.Committed.{Closed, room, committed, Landed}
use Rattle.banks.specs.Steps.{settled_after}

-- what comes first in the order, and the other one
abbrev pub first_of : {A : Type 0} → Order → A → A → A
first_of LeftFirst x y = x
first_of RightFirst x y = y

abbrev pub second_of : {A : Type 0} → Order → A → A → A
second_of LeftFirst x y = y
second_of RightFirst x y = x

-- ---- by steps: place x is settled, then place y

abbrev pub settled_race : StoreModel → ℕ → ℕ → Race
settled_race m x y = record { first = commit_answer m x; second = commit_answer (settled_after m x) y }

abbrev pub settled_both : StoreModel → ℕ → ℕ → StoreModel
settled_both m x y = settled_after (settled_after m x) y

-- ---- by what is committed: write set ps first, then qs

-- whether place a and then place b can be opened
abbrev pub both_opened : StoreModel → ℕ → ℕ → Result (Unit {0}) StoreFault
both_opened m a b = bind (begin_answer m a) (λ _. cond (a == b) (Err PlaceOpen) (begin_answer m b))

-- the second committer is overtaken where the first has committed one of its objects
abbrev pub second_answer : StoreModel → Pairs → Pairs → Result (Unit {0}) StoreFault
second_answer m ps qs = bind (room m) (λ _. cond (shares qs ps) (Err Overtaken) (room (committed m ps)))

abbrev pub raced : StoreModel → Pairs → Pairs → Race
raced m ps qs = record { first = room m; second = second_answer m ps qs }

-- what is refused leaves no trace
abbrev pub raced_after : StoreModel → Pairs → Pairs → StoreModel
raced_after m ps qs = leaves (second_answer m ps qs) (λ _. committed (committed m ps) qs) (leaves (room m) (λ _. committed m ps) m)

-- what is committed first, and what second
abbrev pub winner : Entry → Entry → Order → Pairs
winner l r o = first_of o (pairs l.set) (pairs r.set)

abbrev pub loser : Entry → Entry → Order → Pairs
loser l r o = second_of o (pairs l.set) (pairs r.set)

abbrev pub race_answer : StoreModel → Entry → Entry → Order → Result Race StoreFault
race_answer m l r o = bind (both_opened m l.place r.place) (λ _. Ok (raced m (winner l r o) (loser l r o)))

abbrev pub race_after : StoreModel → Entry → Entry → Order → StoreModel
race_after m l r o = leaves (both_opened m l.place r.place) (λ _. raced_after m (winner l r o) (loser l r o)) m

-- ---- the first committer wins

-- the first committer's write set has landed, and the second committer is refused as overtaken
pub record FirstWins (m : StoreModel) (ps : Pairs) (a : Result Race StoreFault) (m' : StoreModel) : Type 0 where
  pub answers : a ≡ Ok (record { first = Ok tt; second = Err Overtaken })
  pub landed : Landed m ps m'

-- where the two places are closed, the store has room and the write sets share an object, whichever comes second
abbrev pub FirstCommitterWins : StoreModel → Entry → Entry → Order → Result Race StoreFault → StoreModel → Type 0
FirstCommitterWins m l r o a m' =
    Closed m l.place → Closed m r.place → (l.place ≢ r.place) → m.commits < m.most → shares (pairs l.set) (pairs r.set) ≡ true → FirstWins m (winner l r o) a m'
