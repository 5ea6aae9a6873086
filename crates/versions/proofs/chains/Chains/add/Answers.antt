use Rattle.std.proofs.Common.{get_or, Some, None, vec_items, vec_len, refl, ◌∙◌, arith}
use Rattle.std.proofs.lemmas.List.{length-set}
use Rattle.versions.specs.declared.version.Version.{Version}
use Rattle.versions.proofs.Chained.{added}
use Rattle.versions.proofs.chains.Chains.add.Goals as goal

pub invariant_of-self : goal.invariant_of-self
invariant_of-self c =
    let s = c.args.self.now in
    let pool = c.push_reserved.new.self in
    let p = c.push_reserved.ensures in
    let v : Version = record { commit = c.args.commit; value = c.args.value; older = get_or s.newest c.args.object None } in
    let a = added s c.args.object c.len.result v (vec_items pool) (vec_len pool) c.requires.0 c.len.ensures refl p.items p.len in
    record { whole = s.whole; heads = length-set s.newest c.args.object (Some c.len.result) ∙ s.heads; room = omega (arith, s.room, p.capacity); linked = a.linked; falls = a.falls }

pub returns : goal.returns
returns c =
    let s = c.args.self.now in
    let pool = c.push_reserved.new.self in
    let p = c.push_reserved.ensures in
    let v : Version = record { commit = c.args.commit; value = c.args.value; older = get_or s.newest c.args.object None } in
    let a = added s c.args.object c.len.result v (vec_items pool) (vec_len pool) c.requires.0 c.len.ensures refl p.items p.len in
    record { versions = λ i k. a.versions k i; size = p.len }
