-- Numbered write sets: where they are applied, and which stand in whose way.
use Rattle.std.specs.Prelude.{ℕ, ◌-◌, Bool, true, false, not, ◌&&◌, List, [], map, length, vec_items, Option, nat_lt, slice_index_or, slice_set}
use Rattle.tickets.specs.WriteSets.{Pairs, shares}
use Rattle.tickets.specs.Meaning.{pairs}
use Rattle.ledger.specs.declared.applied.Applied.{Applied}
use Rattle.ledger.specs.declared.numbered.Numbered.{Numbered}
use Rattle.ledger.specs.declared.progress.Progress.{Progress}
use Rattle.ledger.specs.declared.write_sets.WriteSets.{WriteSets}
use Rattle.ledger.specs.Words.{count, whole, lowest, some_number}

-- a numbered write set: whose it is and where that is at home, the number that it had seen, its pairs, and by replica whether it is applied there
pub record SetModel : Type 0 where
  pub home : ℕ
  pub s : ℕ
  pub transaction : ℕ
  pub pairs : Pairs
  pub applied : List Bool

abbrev pub marks : Applied → List Bool
marks a = a.at

abbrev pub set_of : Numbered → SetModel
set_of x = record { home = x.home; s = x.s; transaction = x.transaction; pairs = pairs x.set; applied = marks x.applied }

-- the write sets that are held, from number 1 on
abbrev pub sets_of : WriteSets → List SetModel
sets_of us = map set_of (vec_items us.given.items)

-- what stands past the last number; no call reaches it
abbrev pub no_set : SetModel
no_set = record { home = 0; s = 0; transaction = 0; pairs = []; applied = [] }

-- write set n, from 1
abbrev pub nth_set : List SetModel → ℕ → SetModel
nth_set us n = slice_index_or us (n - 1) no_set

-- ---- where they are applied

abbrev pub is_applied : ℕ → SetModel → Bool
is_applied k x = slice_index_or x.applied k false

-- number n is applied at k
abbrev pub applied_at : List SetModel → ℕ → ℕ → Bool
applied_at us k n = is_applied k (nth_set us n)

-- how many numbers are applied at k
abbrev pub applied_count : List SetModel → ℕ → ℕ
applied_count us k = count (applied_at us k) (length us)

-- the numbers applied at k are exactly 1 to some p
abbrev pub whole_at : List SetModel → ℕ → Bool
whole_at us k = whole (applied_at us k) (length us)

unfoldable pub progress_at : List SetModel → ℕ → Progress
progress_at us k = record { applied = applied_count us k; whole = whole_at us k }

-- a write set with its mark at k
abbrev pub marked_set : ℕ → SetModel → SetModel
marked_set k x = record { home = x.home; s = x.s; transaction = x.transaction; pairs = x.pairs; applied = slice_set x.applied k true }

-- ---- which stand in whose way

-- two write sets clash where they share an object: validation and the order of application go by this
abbrev pub clash : Pairs → Pairs → Bool
clash earlier later = shares earlier later

abbrev pub clashes : Pairs → SetModel → Bool
clashes u x = clash x.pairs u

-- number n is above s and clashes with u
abbrev pub clashes_above : List SetModel → ℕ → Pairs → ℕ → Bool
clashes_above us s u n = nat_lt s n && clashes u (nth_set us n)

-- the lowest number above s that clashes with u
unfoldable pub lowest_clash : List SetModel → ℕ → Pairs → Option ℕ
lowest_clash us s u = some_number (lowest (clashes_above us s u) (length us))

-- not applied at k
abbrev pub is_unapplied : ℕ → SetModel → Bool
is_unapplied k x = not (is_applied k x)

abbrev pub unapplied_at : List SetModel → ℕ → ℕ → Bool
unapplied_at us k n = is_unapplied k (nth_set us n)

-- not applied at k, and clashes with u
abbrev pub holds_back : ℕ → Pairs → SetModel → Bool
holds_back k u x = is_unapplied k x && clashes u x

abbrev pub holds_back_at : List SetModel → ℕ → Pairs → ℕ → Bool
holds_back_at us k u n = holds_back k u (nth_set us n)

-- the lowest of the numbers 1 to last that holds u back at k
unfoldable pub lowest_holding : List SetModel → ℕ → ℕ → Pairs → Option ℕ
lowest_holding us k last u = some_number (lowest (holds_back_at us k u) last)

-- the lowest number that is not applied at k
unfoldable pub lowest_unapplied : List SetModel → ℕ → Option ℕ
lowest_unapplied us k = some_number (lowest (unapplied_at us k) (length us))
