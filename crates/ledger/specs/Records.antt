-- Numbered write sets as the items of a run record: home, s and pairs.
use Rattle.std.specs.Prelude.{List, map}
use Rattle.record_format.specs.Items.{Item}
use Rattle.ledger.specs.Sets.{SetModel}

abbrev pub item_of_set : SetModel → Item
item_of_set x = record { home = x.home; s = x.s; pairs = x.pairs }

abbrev pub items_of_sets : List SetModel → List Item
items_of_sets us = map item_of_set us
