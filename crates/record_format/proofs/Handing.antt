-- The write sets of a run, handed out in order: to the last, they are all of its items.
use Rattle.std.proofs.Common.{◌≡◌, ℕ, ◌+◌, ◌<◌, List, length, Some, None, Option, ap, ◌∙◌, arith}
use Rattle.std.specs.Iterator.{YieldsFirstBy}
use Rattle.std.specs.Option.{option_map}
use Rattle.std.proofs.lemmas.Iterator.{YieldsList}
use Rattle.std.proofs.lemmas.Iterator.Consumers.{YieldsList-from_first}
use Rattle.record_format.specs.Items.{Item}
use Rattle.record_format.specs.Meaning.{item_of}
use Rattle.record_format.specs.Order.{left_of}
use Rattle.record_format.specs.Reading.{numbered}
use Rattle.record_format.specs.declared.numbered_set.NumberedSet.{NumberedSet}
use Rattle.record_format.specs.declared.order.InOrder.{InOrder}
use Rattle.record_format.proofs.Numbering.{next_item, no_next}

module _ {R : Type 0} {m : _} (items : R → List Item) (o : InOrder R m) where
  -- the item of the next number is handed out
  pub next_handed_out : (r : Option NumberedSet) (n : ℕ) → n ≡ o.passed + 1 → o.passed < length (items o.run.now) → option_map item_of r ≡ numbered (items o.run.now) n → YieldsFirstBy item_of (left_of items) o r (record { run = o.run; count = o.count; passed = o.passed + 1; counted = o.counted })
  next_handed_out None n next below e = absurd (omega (arith, no_next (items o.run.now) o.passed (e ∙ ap (numbered (items o.run.now)) next)))
  next_handed_out (Some set) n next below e = next_item (items o.run.now) o.passed (item_of set) (e ∙ ap (numbered (items o.run.now)) next)

  pub the_items_in_turn : (its : List Item) → left_of items o ≡ its → YieldsList (YieldsFirstBy item_of (left_of items)) item_of o its
  the_items_in_turn its e = YieldsList-from_first item_of (left_of items) its e
