use Rattle.std.proofs.Common.{◌≡◌, ◌+◌, ◌++◌, string_bytes}
use Rattle.std.specs.Iterator.Adapters.{enumerate_count, enumerate_source}
use Rattle.record_format.specs.Order.{left_of}
use Rattle.record_format.specs.Reading.{items_in}
use Rattle.record_reader.specs.Readers.{read_from}
use Rattle.listing.specs.Listing.{items_text}
use Rattle.listing.proofs.items.put_items.Given as goal

-- what is written and what is left stay the whole
abbrev pub invariant-loop-i : goal.invariant-loop-i
invariant-loop-i l = string_bytes l.text ++ items_text (enumerate_count l.i-iterator + 1) (left_of (λ r. items_in (read_from r)) (enumerate_source l.i-iterator)) ≡ string_bytes l.initial.text ++ items_text 1 (items_in (read_from l.reader))
