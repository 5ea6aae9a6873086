use Rattle.std.proofs.Common.{sym, ap, ◌∙◌, arith}
use Rattle.std.proofs.lemmas.List.{at_drop_all, length-map}
use Rattle.std.proofs.Common.{map, true, ◌≡◌}
use Rattle.tickets.specs.WriteSets.{Pairs, play, rising}
use Rattle.tickets.specs.Meaning.{pair_of}
use Rattle.tickets.proofs.Playing.{play_next}
use Rattle.tickets.proofs.Sets.{pairs_rise}
use Rattle.tickets.proofs.write_set.WriteSet.play.Goals as goal

pub loop-pair-preserved : goal.loop-pair-preserved
loop-pair-preserved c =
    let xs = c.pairs-pair-items.result.now in
    let r : rising 0 (map pair_of xs) ≡ true = ap (rising 0) c.pairs-pair-items.ensures.answer ∙ pairs_rise c.args.self.now in
    sym (play_next xs c.loop-pair.pair-index _ c.loop-pair.board.values r c.loop-pair-test.true) ∙ c.loop-pair.invariant

pub returns : goal.returns
returns c =
    let xs = c.pairs-pair-items.result.now in
    let e = at_drop_all (λ (ps : Pairs). play ps c.loop-pair.board.values) (map pair_of xs) c.loop-pair.pair-index (omega (arith, length-map xs pair_of)) in
    record { after = sym e ∙ c.loop-pair.invariant ∙ ap (λ (ps : Pairs). play ps c.args.board.now.values) c.pairs-pair-items.ensures.answer }
