use Rattle.std.proofs.Common.{◌≡◌, ◌+◌, ◌*◌, ◌-◌, ap, ◌∙◌, arith}
use Rattle.record_format.proofs.Walk.{tally, rest, walk_ends_here, next_within, walk_goes_on, walk_leaves_bytes, walk_leaves_none}
use Rattle.record_format.specs.Calls.{verdict_of}
use Rattle.record_format.specs.Meaning.{item_of}
use Rattle.record_format.specs.Reading.{decoded, count_of}
use Rattle.record_reader.proofs.walk.walk.Goals as goal
use Rattle.record_reader.proofs.walk.walk.Goals.{else-loop-n-test, then-loop-n-test+in-Some+else-n-count}

pub returns-in_default : goal.returns-in_default
returns-in_default c = record {
  answer = ap verdict_of (walk_ends_here c.args.bytes.now c.from-count.result c.loop-n.n c.loop-n.at c.loop-n.invariant.2 c.loop-n.auto.n c.loop-n-test.true c.in_default.ensures.answer);
}

pub loop-n-preserved : goal.loop-n-preserved
loop-n-preserved c =
    let bs = c.args.bytes.now in
    let count = c.from-count.result in
    let n = c.loop-n.n in
    let it = item_of c.in-Some.item in
    let within = next_within bs count n c.loop-n.at c.loop-n.invariant.2 c.loop-n.auto.n c.loop-n-test.true it c.in-Some.ensures.answer c.loop-n.invariant.0 in
    let on = walk_goes_on bs count n c.loop-n.at c.loop-n.invariant.2 c.loop-n.auto.n c.loop-n-test.true it c.in-Some.ensures.answer (n + 1 - 1) _ (omega arith) (ap (λ k. c.loop-n.at + (2 + 5 * k)) c.len.ensures.answer) in
    (omega (arith, within, c.len.ensures.answer), omega arith, on)

pub returns-then-at-bytes : goal.returns-then-at-bytes
returns-then-at-bytes c =
    let bs = c.args.bytes.now in
    let count = c.from-count.result in
    let n = c.loop-n.n in
    let at = c.loop-n.at in
    let so_far = c.loop-n.invariant.2 in
    let all : tally count (rest bs count count c.loop-n-test.at) ≡ count_of (decoded bs) =
    elim c.loop-n-test.branch [
      | else-loop-n-test w ↦ let same : count ≡ n - 1 = omega (arith, c.loop-n.invariant.1, w.loop-n-test.false) in (λ i. tally (same i) (rest bs count (same i) (w.at-is i))) ∙ so_far
      | then-loop-n-test+in-Some+else-n-count w ↦
          walk_goes_on bs count n at so_far c.loop-n.auto.n w.loop-n-test.true (item_of w.in-Some.item) w.in-Some.ensures.answer count c.loop-n-test.at (omega arith) (w.at-is ∙ ap (λ k. at + (2 + 5 * k)) w.len.ensures.answer)
    ] in
    record { answer = ap verdict_of (walk_leaves_bytes bs count c.loop-n-test.at all c.if-at-bytes.true) }

pub returns : goal.returns
returns c =
    let bs = c.args.bytes.now in
    let count = c.from-count.result in
    let n = c.loop-n.n in
    let at = c.loop-n.at in
    let so_far = c.loop-n.invariant.2 in
    let all : tally count (rest bs count count c.loop-n-test.at) ≡ count_of (decoded bs) =
    elim c.loop-n-test.branch [
      | else-loop-n-test w ↦ let same : count ≡ n - 1 = omega (arith, c.loop-n.invariant.1, w.loop-n-test.false) in (λ i. tally (same i) (rest bs count (same i) (w.at-is i))) ∙ so_far
      | then-loop-n-test+in-Some+else-n-count w ↦
          walk_goes_on bs count n at so_far c.loop-n.auto.n w.loop-n-test.true (item_of w.in-Some.item) w.in-Some.ensures.answer count c.loop-n-test.at (omega arith) (w.at-is ∙ ap (λ k. at + (2 + 5 * k)) w.len.ensures.answer)
    ] in
    record { answer = ap verdict_of (walk_leaves_none bs count c.loop-n-test.at all c.if-at-bytes.false) }
