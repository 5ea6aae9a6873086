use Rattle.std.proofs.Common.{◌<◌, is_some, sym, ap, ◌∙◌, arith}
use Rattle.std.proofs.lemmas.List.{length-set}
use Rattle.stores.specs.Model.{done}
use Rattle.tickets.specs.declared.pair.Pair.{Pair}
use Rattle.versions.specs.Writes.{own_of, own_left}
use Rattle.versions.proofs.Held.{held_own, held_over, held_new, set_over, set_new, set_ninth}
use Rattle.versions.proofs.own_writes.OwnWrites.set.Goals as goal

pub invariant_of-self : goal.invariant_of-self
invariant_of-self c =
    let w = c.args.self.now in
    let at = c.in-Some.ensures in
    let q : Pair = record { object = c.args.object; value = c.args.value } in
    record { whole = length-set w.pairs _ q ∙ w.whole; few = w.few; once = (held_over w q c.in-Some.i at.0 at.1).once }

pub returns-in-Some : goal.returns-in-Some
returns-in-Some c =
    let w = c.args.self.now in
    let j = c.args.object in
    let at = c.in-Some.ensures in
    let q : Pair = record { object = j; value = c.args.value } in
    let e = set_over w j c.args.value c.if-object-ge-OBJECTS.false (ap is_some (held_own w c.in-Some.i j at.0 at.1)) in
    record { answer = ap done (sym e); after = (λ i k. (held_over w q c.in-Some.i at.0 at.1).own k i) ∙ ap (λ r. own_left r (own_of w)) (sym e) }

pub returns-then-self-eq-MOST_PAIRS : goal.returns-then-self-eq-MOST_PAIRS
returns-then-self-eq-MOST_PAIRS c =
    let w = c.args.self.now in
    let e = set_ninth w c.args.object c.args.value c.if-object-ge-OBJECTS.false c.in-None.ensures c.if-self-eq-MOST_PAIRS.true in
    record { answer = ap done (sym e); after = ap (λ r. own_left r (own_of w)) (sym e) }

pub invariant_of-self-in-None : goal.invariant_of-self-in-None
invariant_of-self-in-None c =
    let w = c.args.self.now in
    let q : Pair = record { object = c.args.object; value = c.args.value } in
    let less : w.count < 8 = omega (arith, w.few, c.if-self-eq-MOST_PAIRS.false) in
    record { whole = length-set w.pairs _ q ∙ w.whole; few = omega arith; once = (held_new w q less c.if-object-ge-OBJECTS.false c.in-None.ensures).once }

pub returns-else-self-eq-MOST_PAIRS : goal.returns-else-self-eq-MOST_PAIRS
returns-else-self-eq-MOST_PAIRS c =
    let w = c.args.self.now in
    let j = c.args.object in
    let q : Pair = record { object = j; value = c.args.value } in
    let below = c.if-object-ge-OBJECTS.false in
    let less : w.count < 8 = omega (arith, w.few, c.if-self-eq-MOST_PAIRS.false) in
    let e = set_new w j c.args.value below c.in-None.ensures less in
    record { answer = ap done (sym e); after = (λ i k. (held_new w q less below c.in-None.ensures).own k i) ∙ ap (λ r. own_left r (own_of w)) (sym e) }
