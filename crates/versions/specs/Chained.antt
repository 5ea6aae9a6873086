-- The versions that the chains hold.
use Rattle.std.specs.Prelude.{ℕ, List, reverse, None, vec_items, vec_len, slice_index, slice_index_or}
use Rattle.versions.specs.declared.chains.Chains.{Chains}
use Rattle.versions.specs.declared.walk.Walk.{Walk}
use Rattle.versions.specs.declared.version.Version.{Version}
use Rattle.versions.specs.Histories.{Dated}
use Rattle.versions.specs.Links.{chain, linked}

-- the versions of object j are those that its link leads to
abbrev pub versions_of : Chains → ℕ → List Dated
versions_of s = λ j. chain (slice_index s.start j) (reverse (vec_items s.pool)) (slice_index_or s.newest j None)

-- how many versions the pool holds
abbrev pub size_of : Chains → ℕ
size_of s = vec_len s.pool

-- the versions in the pool of object j, newest first
abbrev pub linked_from : Chains → ℕ → List Version
linked_from s j = linked (reverse (vec_items s.pool)) (slice_index_or s.newest j None)

-- the versions that are still to come on the way along the links
abbrev pub versions_left : Walk → List Version
versions_left l = linked (reverse l.pool.now) l.next
