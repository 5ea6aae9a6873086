use Rattle.std.proofs.Common.{◌++◌, string_bytes, ap, ◌∙◌}
use Rattle.std.proofs.lemmas.Result.{on_ok_weaker}
use Rattle.tickets.specs.Meaning.{values}
use Rattle.record_format.specs.Reading.{items_in}
use Rattle.listing.specs.Listing.{items_text, tickets_text}
use Rattle.listing.proofs.Lines.{added_twice}
use Rattle.listing.proofs.listing.put_lines.Goals as goal

pub returns : goal.returns
returns c =
    let before = string_bytes c.args.text.now in
    let same = ap (λ bs. before ++ items_text 1 (items_in bs)) c.new-reader.ensures.answer in
    record {
      bytes =
          on_ok_weaker c.put_tickets.result (λ e. added_twice before (items_text 1 (items_in c.args.bytes.now)) (tickets_text (values c.args.board.now) 0 16) (c.in_ok-put_items.ensures.bytes ∙ same) e) c.put_tickets.ensures.bytes;
    }
