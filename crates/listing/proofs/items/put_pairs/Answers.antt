use Rattle.std.proofs.Common.{◌++◌, map, string_bytes, ap, ◌∙◌, arith}
use Rattle.std.specs.List.{flat_map}
use Rattle.std.proofs.lemmas.List.{at_drop_all, length-map}
use Rattle.tickets.specs.Meaning.{pair_of}
use Rattle.listing.specs.Listing.{pair_text}
use Rattle.listing.proofs.Lines.{one_more, nothing_left, next_pair}
use Rattle.listing.proofs.items.put_pairs.Goals as goal

pub loop-pair-preserved : goal.loop-pair-preserved
loop-pair-preserved c =
    one_more (string_bytes c.loop-pair.text) _ _ (next_pair c.pairs-pair-items.result.now c.loop-pair.pair-index _ c.loop-pair-test.true)
    c.in_ok-put_pair.ensures.bytes c.loop-pair.invariant

pub returns : goal.returns
returns c =
    let xs = c.pairs-pair-items.result.now in
    let e = at_drop_all (flat_map pair_text) (map pair_of xs) c.loop-pair.pair-index (omega (arith, length-map xs pair_of)) in
    record {
      bytes =
          nothing_left (string_bytes c.loop-pair.text) e c.loop-pair.invariant ∙ ap (λ ps. string_bytes c.args.text.now ++ flat_map pair_text ps) c.pairs-pair-items.ensures.answer;
    }
