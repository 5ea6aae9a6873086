use Rattle.std.proofs.Common.{reverse, get_or, vec_items, vec_len, refl, ap, ◌∙◌, arith, rules}
use Rattle.versions.specs.Links.{before, falling, chain}
use Rattle.versions.proofs.Chained.{no_link}
use Rattle.versions.proofs.Links.{chain_none}
use Rattle.versions.proofs.chains.Chains.new.Goals as goal

pub invariant_of-result : goal.invariant_of-result
unfolding falling
invariant_of-result c =
    let p = c.in_ok-pool.ensures in
    record {
      whole = search rules;
      heads = refl;
      room = omega (arith, p.capacity);
      linked = λ j. ap (λ l. before l (vec_len c.in_ok-pool.pool)) (no_link 128 j);
      falls = ap (λ l. falling (reverse l)) p.items;
    }

pub returns : goal.returns
returns c =
    let p = c.in_ok-pool.ensures in
    let pool = reverse (vec_items c.in_ok-pool.pool) in
    ((λ i k. (ap (chain (get_or c.args.start k 0) pool) (no_link 128 k) ∙ chain_none (get_or c.args.start k 0) pool) i), p.len)
