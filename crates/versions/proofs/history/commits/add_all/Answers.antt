use Rattle.std.proofs.Common.{◌+◌, drop, sym, ap, ◌∙◌, arith}
use Rattle.versions.specs.Pairs.{own_in}
use Rattle.versions.specs.Histories.{after_commit}
use Rattle.versions.specs.Chained.{versions_of}
use Rattle.versions.proofs.Pairs.{headed_at}
use Rattle.versions.proofs.Commits.{commit_more, commit_end}
use Rattle.versions.proofs.history.commits.add_all.Goals as goal

pub add-requires : goal.add-requires
add-requires c =
    ((headed_at c.args.pairs.now c.requires.0 c.loop-pair.pair-index c.loop-pair-test.true).below, omega (arith, c.requires.1, c.loop-pair.invariant.1, c.loop-pair-test.true))

pub loop-pair-preserved : goal.loop-pair-preserved
loop-pair-preserved c =
    let ps = c.args.pairs.now in
    let i = c.loop-pair.pair-index in (
      ap (λ v. after_commit v c.args.commit (own_in (drop (i + 1) ps))) c.add.ensures.versions
          ∙ commit_more (versions_of c.loop-pair.chains) c.args.commit ps c.requires.0 i c.loop-pair-test.true
          ∙ c.loop-pair.invariant.0,
      omega (arith, c.add.ensures.size, c.loop-pair.invariant.1),
    )

pub returns : goal.returns
returns c =
    let ps = c.args.pairs.now in
    let i = c.loop-pair.pair-index in
    record {
      versions = sym (commit_end (versions_of c.loop-pair.chains) c.args.commit ps c.requires.0 i c.loop-pair-test.false) ∙ c.loop-pair.invariant.0;
      size = omega (arith, c.loop-pair.invariant.1, c.loop-pair-test.false);
    }
