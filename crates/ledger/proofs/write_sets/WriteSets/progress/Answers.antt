-- Counting what is applied, in one pass; a number that is applied with all before it leaves no hole.
use Rattle.std.proofs.Common.{◌≡◌, ◌+◌, eqb, length, get_or, vec_items, sym, ap, ◌∙◌, arith}
use Rattle.ledger.specs.Words.{count, whole}
use Rattle.ledger.specs.Sets.{sets_of, applied_at, is_applied, progress_at}
use Rattle.ledger.proofs.Upward.{count_none, count_yes, count_not, whole_none, whole_yes, whole_not}
use Rattle.ledger.proofs.Items.{item_passes, length-sets}
use Rattle.ledger.proofs.write_sets.WriteSets.progress.Goals as goal
use Rattle.ledger.proofs.write_sets.WriteSets.progress.Goals.{then-has, else-has}

pub loop-i-init : goal.loop-i-init
loop-i-init c = (sym (count_none _), sym (whole_none _), omega arith)

pub loop-i-preserved : goal.loop-i-preserved
loop-i-preserved c =
    let f = applied_at (sets_of c.args.self.now) c.args.replica in
    let i = c.loop-i.i in
    let same : c.deref-x-items.result.now ≡ vec_items c.args.self.now.given.items = c.deref-x-items.ensures.value in
    let is : f (i + 1) ≡ c.has.result = item_passes (is_applied c.args.replica) (vec_items c.args.self.now.given.items) i c.x-item.result _ (omega arith) (c.x-item.is ∙ ap (λ xs. get_or xs i c.x-item.result) same) c.has.ensures.answer in
    elim c.if-has.branch [
      | then-has w ↦
          let yes = is ∙ w.if-has.true in (
            w.applied-is ∙ ap (λ n. n + 1) c.loop-i.invariant.0 ∙ sym (count_yes f i yes),
            w.whole-is ∙ ap (λ n. eqb n i) (w.from.ensures ∙ c.loop-i.invariant.0) ∙ sym (whole_yes f i yes),
            omega (arith, w.applied-is),
          )
      | else-has w ↦
          let no = is ∙ w.if-has.false in (
            w.applied-is ∙ c.loop-i.invariant.0 ∙ sym (count_not f i no),
            w.whole-is ∙ c.loop-i.invariant.1 ∙ sym (whole_not f i no),
            omega (arith, w.applied-is),
          )
    ]

pub returns : goal.returns
unfolding progress_at
returns c =
    let f = applied_at (sets_of c.args.self.now) c.args.replica in
    let e : c.loop-i.i ≡ length (sets_of c.args.self.now) = omega (arith, length-sets c.args.self.now) in
    let n = c.loop-i.invariant.0 ∙ ap (count f) e in
    let w = c.loop-i.invariant.1 ∙ ap (whole f) e in
    record { answer = (λ i. record { applied = n i; whole = w i }) }
