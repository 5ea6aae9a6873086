use Rattle.std.proofs.Common.{rules, leb, ap, ◌∙◌}
use borrow.Author.Tests.{tests}
use Rattle.std.proofs.lemmas.Iterator.{YieldsList-from_slice}
use Rattle.std.proofs.lemmas.Iterator.Search.{all_from_yields_List}
use Rattle.tickets.specs.Boards.{top}
use Rattle.tickets.specs.declared.pair.Pair.{Pair}
use Rattle.record_format.specs.Items.{within_tops}
use Rattle.record_format.proofs.Sets.{tops_of_each}
use Rattle.record_writer.proofs.runs.within_tops.Goals as goal

pub returns : goal.returns
returns c =
    let ps = c.pairs.result.now in
    let all = all_from_yields_List (λ (p : Pair). leb p.value (top p.object)) _ _ c.all.result c.all.ensures.ran (YieldsList-from_slice ps c.iter.ensures.rest) (λ x b q k. search (rules, tests)) in
    record { answer = all ∙ tops_of_each ps ∙ ap within_tops c.pairs.ensures.answer }
