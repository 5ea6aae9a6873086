-- What the types of the code mean.
use Rattle.std.specs.Prelude.{List, map}
use Rattle.tickets.specs.Meaning.{pairs}
use Rattle.record_format.specs.Items.{Item}
use Rattle.record_format.specs.declared.numbered_set.NumberedSet.{NumberedSet}

abbrev pub item_of : NumberedSet → Item
item_of n = record { home = n.home; s = n.s; pairs = pairs n.set }

abbrev pub items_of : List NumberedSet → List Item
items_of ns = map item_of ns
