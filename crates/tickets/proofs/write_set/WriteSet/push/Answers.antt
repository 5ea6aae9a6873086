use Rattle.std.proofs.Common.{refl, sym, ap, ◌∙◌, inl, inr, arith}
use Rattle.std.proofs.lemmas.List.{length-set}
use Rattle.tickets.specs.WriteSets.{is_write_set}
use Rattle.tickets.specs.Meaning.{pairs}
use Rattle.tickets.proofs.Rising.{push_stands, ninth_fails, outside_fails, not_above_fails}
use Rattle.tickets.proofs.Sets.{length_pairs, pairs_rise, after_last, push_pair}
use Rattle.tickets.proofs.write_set.WriteSet.push.Goals as goal

pub returns-then-n-ge-MOST_PAIRS : goal.returns-then-n-ge-MOST_PAIRS
returns-then-n-ge-MOST_PAIRS c =
    let w = c.args.self.now in
    let j = c.args.pair.object in
    let v = c.args.pair.value in
    elim c.then-n-ge-MOST_PAIRS.either [
      | inl full ↦ record { answer = sym (ninth_fails (pairs w) j v (omega (arith, length_pairs w))); after = refl }
      | inr out ↦ record { answer = sym (outside_fails (pairs w) j v (pairs_rise w) out.1); after = refl }
    ]

pub returns-then-self-n : goal.returns-then-self-n
returns-then-self-n c =
    let w = c.args.self.now in
    record { answer = sym (not_above_fails (pairs w) c.args.pair.object c.args.pair.value (pairs_rise w) (omega (arith, after_last w record { object = 0; value = 0 }, c.if-self-n.true))); after = refl }

pub invariant_of-self : goal.invariant_of-self
invariant_of-self c =
    let w = c.args.self.now in
    let p = c.args.pair in
    let l = length-set w.pairs w.len p in
    let e = push_pair w.len w.pairs p (omega arith) in
    let s = push_stands (pairs w) p.object p.value (pairs_rise w) (omega (arith, length_pairs w)) (omega (arith, after_last w record { object = 0; value = 0 }, c.if-self-n.false)) (omega arith) in
    record { eight = omega arith; few = omega arith; stands = ap is_write_set e ∙ s }

pub returns : goal.returns
returns c =
    let w = c.args.self.now in
    let p = c.args.pair in
    record {
      answer = sym (push_stands (pairs w) p.object p.value (pairs_rise w) (omega (arith, length_pairs w)) (omega (arith, after_last w record { object = 0; value = 0 }, c.if-self-n.false)) (omega arith));
      after = push_pair w.len w.pairs p (omega arith);
    }
