-- The marked objects, from the lowest.
use Rattle.std.specs.Prelude.{ℕ, ◌-◌, List}
use Rattle.std.specs.List.{filter, range_with_len}
use Rattle.marks.specs.declared.marks.Marks.{Marks}
use Rattle.marks.specs.declared.objects.Objects.{Objects}
use Rattle.marks.specs.Marked.{marked}

-- the marked objects from object j on, of the 128
unfoldable pub marked_from : Marks → ℕ → List ℕ
marked_from m j = filter (marked m) (range_with_len j (128 - j))

-- the objects that are still to be handed out
abbrev pub objects_left : Objects → List ℕ
objects_left o = marked_from o.marks.now o.from
