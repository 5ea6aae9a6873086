use Rattle.std.proofs.Common.{◌≡◌, List, [], ◌++◌, Ok, ap, ◌∙◌, rules}
use Rattle.std.specs.declared.alloc.AllocError.{AllocError}
use Rattle.std.proofs.lemmas.Iterator.Adapters.{fact_from_extend}
use Rattle.record_format.specs.Calls.{check_answer, SetsOf}
use Rattle.record_format.specs.Meaning.{item_of, items_of}
use Rattle.record_format.specs.Order.{left_of}
use Rattle.record_format.specs.Reading.{decoded, items_in}
use Rattle.record_format.specs.Written.{encoded}
use Rattle.record_format.specs.declared.numbered_set.NumberedSet.{NumberedSet}
use Rattle.record_reader.specs.Readers.{read_from}
use Rattle.record_format.proofs.Handing.{the_items_in_turn}
use Rattle.record_format.proofs.Verdicts.{made_of, written_back}
use Rattle.record.proofs.reads.read.Goals as goal

-- behind nothing stand just the write sets that were added
added_to_none : (before added after : List NumberedSet) → after ≡ before ++ added → before ≡ [] → items_of after ≡ items_of added
added_to_none before added after e none = ap items_of (e ∙ ap (λ l. l ++ added) none)

pub returns : goal.returns
returns c =
    let bs = c.args.bytes.now in
    let same = c.new-reader.ensures.answer in
    let count = c.in_ok-count.ensures.answer ∙ ap check_answer same in
    let all : items_of c.extend.new.self.items ≡ items_in bs =
    fact_from_extend {E = AllocError} item_of (Ok c.in_ok-extend.field-0) c.in_ok-extend.ensures.ran
    (λ it is. the_items_in_turn (λ r. items_in (read_from r)) it (items_in bs) (ap (left_of (λ r. items_in (read_from r))) is ∙ c.in_order.ensures ∙ ap items_in same))
    (λ xs are gives. added_to_none _ xs _ gives.0 (search rules) ∙ are) in
    record {
      answer = made_of SetsOf (decoded bs) c.in_ok-count.count _ count all;
      writes_back = ap encoded all ∙ written_back bs c.in_ok-count.count (λ i. (c.type_inv.bytes i).fits) count;
    }
