-- What is left of a run that is handed out in order.
use Rattle.std.specs.Prelude.{List, drop}
use Rattle.record_format.specs.Items.{Item}
use Rattle.record_format.specs.declared.order.InOrder.{InOrder}

-- the items that are still to be handed out, where `items` are those of the whole run
abbrev pub left_of : {R : Type 0} {m : _} → (R → List Item) → InOrder R m → List Item
left_of items o = drop o.passed (items o.run.now)
