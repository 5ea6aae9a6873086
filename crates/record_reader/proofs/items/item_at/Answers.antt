use Rattle.std.proofs.Common.{refl, ap, ◌∙◌, arith}
use Rattle.std.specs.Option.{option_map}
use Rattle.tickets.specs.Meaning.{pairs}
use Rattle.record_format.proofs.Standing.{no_item_by_pairs, item_found, pairs_of_body}
use Rattle.std.proofs.lemmas.List.{take_rest}
use Rattle.record_format.specs.Reading.{two_of}
use Rattle.record_format.specs.Items.{accepted}
use Rattle.record_format.specs.Meaning.{item_of}
use Rattle.record_reader.proofs.items.item_at.Goals as goal

pub returns-in_err-set : goal.returns-in_err-set
returns-in_err-set c =
    let entry = c.entry_of-home.ensures.answer in
    let body = pairs_of_body c.args.bytes.now c.args.n c.args.at entry _ c.as_chunks.result.0.now (omega (arith, c.if-size-rest.false)) refl c.as_chunks.ensures.front in
    record { answer = ap (option_map item_of) c.from_residual.ensures ∙ no_item_by_pairs c.args.bytes.now c.args.n c.args.at entry (c.in_err-set.ensures.answer ∙ ap accepted body) }

pub returns : goal.returns
returns c =
    let entry = c.entry_of-home.ensures.answer in
    let body = pairs_of_body c.args.bytes.now c.args.n c.args.at entry _ c.as_chunks.result.0.now (omega (arith, c.if-size-rest.false)) refl c.as_chunks.ensures.front in
    record {
      answer =
          item_found c.args.bytes.now c.args.n c.args.at entry c.two_of-s.result (pairs c.in_ok-set.set)
          (c.two_of-s.ensures.answer ∙ ap two_of (take_rest c.args.bytes.now c.args.at)) c.if-offset-at.false (omega (arith, c.if-size-rest.false)) c.if-home-gt-LAST_HOME.false (omega (arith, c.from.ensures, c.if-from-n.false)) (c.in_ok-set.ensures.answer ∙ ap accepted body);
    }
