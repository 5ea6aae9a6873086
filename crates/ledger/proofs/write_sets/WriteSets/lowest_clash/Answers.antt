-- The first above s is the lowest.
use Rattle.std.proofs.Common.{◌≡◌, ◌+◌, drop, vec_items, sym, ap, ◌∙◌, rules}
use Rattle.std.specs.List.{position}
use Rattle.std.specs.Option.{option_map}
use Rattle.tickets.specs.Meaning.{pairs}
use Rattle.ledger.specs.declared.numbered.Numbered.{Numbered}
use Rattle.ledger.specs.Sets.{set_of, no_set, clashes, lowest_clash}
use Rattle.ledger.proofs.Upward.{lowest_above}
use Rattle.ledger.proofs.write_sets.WriteSets.lowest_clash.Goals as goal

pub returns : goal.returns
unfolding lowest_clash
returns c =
    let p = clashes (pairs c.args.set.now) in
    let s = c.args.s in
    let from : c.from-from.result ≡ s = search rules in
    let held : c.deref.result.now ≡ vec_items c.args.self.now.given.items = c.deref.ensures.value in
    let number : c.map.result ≡ option_map (λ i. s + i + 1) c.first_clash.result = search rules in
    record { answer = number ∙ ap (option_map (λ i. s + i + 1)) (c.first_clash.ensures.place ∙ (λ r. position (λ (x : Numbered). p (set_of x)) (drop (from r) (held r)))) ∙ sym (lowest_above set_of p (vec_items c.args.self.now.given.items) no_set s) }
