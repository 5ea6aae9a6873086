use Rattle.std.proofs.Common.{◌+◌, ◌++◌, length, string_bytes, ap, ◌∙◌, inl, arith}
use Rattle.std.specs.Iterator.Adapters.{enumerate_count, enumerate_source}
use Rattle.record_format.specs.Meaning.{item_of}
use Rattle.record_format.specs.Order.{left_of}
use Rattle.record_format.specs.Reading.{items_in}
use Rattle.record_reader.specs.Readers.{read_from}
use Rattle.listing.specs.Listing.{item_text, items_text}
use Rattle.listing.proofs.Lines.{one_more, nothing_left, next_line, no_line}
use Rattle.listing.proofs.Few.{few_items}
use Rattle.listing.proofs.items.put_items.Goals as goal

pub loop-i-init : goal.loop-i-init
loop-i-init c =
    let gives = c.into_iter-i-iterator.ensures.into_iter_gives in
    let count = ap enumerate_count gives ∙ c.enumerate-i-items.ensures.count in
    let left = ap (λ e. left_of (λ r. items_in (read_from r)) (enumerate_source e)) gives ∙ ap (left_of (λ r. items_in (read_from r))) c.enumerate-i-items.ensures.source ∙ c.in_order.ensures in
    λ i. string_bytes c.args.text.now ++ items_text (count i + 1) (left i)

-- the numbers fit
pub loop-i-init-derived : goal.loop-i-init-derived
loop-i-init-derived c =
    let gives = c.into_iter-i-iterator.ensures.into_iter_gives in
    let count = ap enumerate_count gives ∙ c.enumerate-i-items.ensures.count in
    let left = ap (λ e. left_of (λ r. items_in (read_from r)) (enumerate_source e)) gives ∙ ap (left_of (λ r. items_in (read_from r))) c.enumerate-i-items.ensures.source ∙ c.in_order.ensures in
    ((tt, tt, inl (omega (arith, count, ap length left, few_items (read_from c.args.reader.now)))), tt)

pub loop-i-preserved : goal.loop-i-preserved
loop-i-preserved c =
    let n = enumerate_count c.loop-i.i-iterator + 1 in
    let s = c.in-Some.ensures.steps in
    let text = string_bytes c.loop-i.text in
    let after = c.in_ok-put_item.ensures.bytes ∙ ap (λ i. text ++ item_text (i + 1) (item_of c.in-Some.item)) s.1 in
    let rest = left_of (λ r. items_in (read_from r)) (enumerate_source c.next.new.self) in
    ap (λ k. string_bytes c.put_item.new.text ++ items_text (k + 1) rest) s.2 ∙ one_more text _ _ (next_line n s.0) after c.loop-i.invariant

pub returns : goal.returns
returns c = record { bytes = nothing_left (string_bytes c.loop-i.text) (no_line (enumerate_count c.loop-i.i-iterator + 1) c.in-None.ensures.steps.0.0) c.loop-i.invariant }
