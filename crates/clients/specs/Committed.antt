-- A write set that is committed in a place of its own: what that answers and leaves.
use Rattle.std.specs.Prelude.{◌≡◌, ℕ, ◌+◌, ◌<◌, cond, map, length, Some, None, Ok, Err, Result, ◌==◌, slice_index_or}
use Rattle.tickets.specs.Boards.{Board}
use Rattle.tickets.specs.WriteSets.{Pairs, lookup, stands, play}
use Rattle.stores.specs.declared.fault.StoreFault.{StoreFault}
use Rattle.stores.specs.declared.fault.StoreFault.TheVariants.{Full}
use Rattle.stores.specs.Model.{StoreModel, Place, nothing, bind, leaves, overtaken_by, with_place, begin_answer}

-- there is such a place, and it is not open
abbrev pub Closed : StoreModel → ℕ → Type 0
Closed m p = (p < length m.places) × (slice_index_or m.places p None ≡ None)

-- whether one more commit fits in
abbrev pub room : StoreModel → Result (Unit {0}) StoreFault
room m = cond (m.commits == m.most) (Err Full) (Ok tt)

-- a place that has written just these pairs since it was opened on this board
abbrev pub written_place : Board → Pairs → Place
written_place b ps = record { snapshot = b; own = lookup ps; overtaken = nothing }

-- a place opened on the current board, with these pairs written
abbrev pub opened_after : StoreModel → ℕ → Pairs → StoreModel
opened_after m p ps = leaves (begin_answer m p) (λ _. with_place m p (Some (written_place m.board ps))) m

-- the store after a commit of these pairs: they are played over the board, one commit is counted, and at every open
-- place their objects are overtaken besides
abbrev pub committed : StoreModel → Pairs → StoreModel
committed m ps = record {
  board = play ps m.board;
  commits = m.commits + 1;
  most = m.most;
  places = map (overtaken_by (stands ps)) m.places;
}

-- begin's refusals come first, then that the store is full
abbrev pub write_set_answer : StoreModel → ℕ → Result (Unit {0}) StoreFault
write_set_answer m p = bind (begin_answer m p) (λ _. room m)

-- a refusal leaves the store as it was
abbrev pub write_set_after : StoreModel → ℕ → Pairs → StoreModel
write_set_after m p ps = leaves (write_set_answer m p) (λ _. committed m ps) m

-- ---- where nothing refuses it

-- the pairs stand on the board, one commit more is counted, and no place loses or gains but that the written objects
-- are overtaken at the open ones
pub record Landed (m : StoreModel) (ps : Pairs) (m' : StoreModel) : Type 0 where
  pub board : m'.board ≡ play ps m.board
  pub commits : m'.commits ≡ m.commits + 1
  pub most : m'.most ≡ m.most
  pub as_many : length m'.places ≡ length m.places
  pub places : (q : ℕ) → slice_index_or m'.places q None ≡ overtaken_by (stands ps) (slice_index_or m.places q None)

abbrev pub Lands : StoreModel → ℕ → Pairs → Result (Unit {0}) StoreFault → StoreModel → Type 0
Lands m p ps r m' = Closed m p → m.commits < m.most → (r ≡ Ok tt) × Landed m ps m'
