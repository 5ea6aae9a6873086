-- What a history means, and what a commit does to it.
use Rattle.std.specs.Prelude.{ℕ, ◌+◌, Bool, cond, ◌&&◌, List, is_some, Some, None, Ok, Err, Option, Result, ◌==◌, nat_lt, slice_index}
use Rattle.stores.specs.declared.fault.StoreFault.{StoreFault}
use Rattle.stores.specs.declared.fault.StoreFault.TheVariants.{Full}
use Rattle.stores.specs.Model.{any_below}
use Rattle.versions.specs.declared.history.History.{History}
use Rattle.versions.specs.Histories.{Dated, board_at, written_since, after_commit}
use Rattle.versions.specs.Chained.{versions_of}

-- how many commits wrote, and the versions of each object
pub record HistoryModel : Type 0 where
  pub commits : ℕ
  pub versions : ℕ → List Dated

-- a history means its count and its versions
abbrev pub history_of : History → HistoryModel
history_of h = record { commits = h.commits; versions = versions_of h.chains }

-- the value of object j after commit c
abbrev pub value_in : HistoryModel → ℕ → ℕ → Option ℕ
value_in m c j = cond (nat_lt j 128) (Some (slice_index (board_at m.versions c) j)) None

-- whether a commit after commit c wrote an object of these writes
abbrev pub clash_since : HistoryModel → ℕ → (ℕ → Option ℕ) → Bool
clash_since m c own = any_below (λ j. is_some (own j) && written_since m.versions c j) 128

-- a commit is refused where there have been 256
abbrev pub land_answer : HistoryModel → Result (Unit {0}) StoreFault
land_answer m = cond (m.commits == 256) (Err Full) (Ok tt)

-- the next commit made these writes
abbrev pub land_after : HistoryModel → (ℕ → Option ℕ) → HistoryModel
land_after m own = cond (m.commits == 256) m (record { commits = m.commits + 1; versions = after_commit m.versions (m.commits + 1) own })
