-- The first that is not applied is the lowest.
use Rattle.std.proofs.Common.{◌≡◌, ◌+◌, vec_items, sym, ap, ◌∙◌, rules}
use Rattle.std.specs.List.{position}
use Rattle.std.specs.Option.{option_map}
use Rattle.ledger.specs.declared.numbered.Numbered.{Numbered}
use Rattle.ledger.specs.Sets.{set_of, no_set, is_unapplied, lowest_unapplied}
use Rattle.ledger.proofs.Upward.{lowest_all}
use Rattle.ledger.proofs.write_sets.WriteSets.lowest_unapplied.Goals as goal

pub returns-clause-answer : goal.returns-clause-answer
unfolding lowest_unapplied
returns-clause-answer c =
    let p = is_unapplied c.args.replica in
    let held : c.deref.result.now ≡ vec_items c.args.self.now.given.items = c.deref.ensures.value in
    let number : c.map.result ≡ option_map (λ i. i + 1) c.first_unapplied.result = search rules in
    number ∙ ap (option_map (λ i. i + 1)) (c.first_unapplied.ensures.place ∙ ap (position (λ (x : Numbered). p (set_of x))) held) ∙ sym (lowest_all set_of p (vec_items c.args.self.now.given.items) no_set)
