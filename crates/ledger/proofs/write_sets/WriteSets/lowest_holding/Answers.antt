-- The first of those below n is the lowest.
use Rattle.std.proofs.Common.{◌≡◌, ◌+◌, ◌-◌, take, vec_items, sym, refl, ap, ◌∙◌, rules}
use Rattle.std.specs.List.{position}
use Rattle.std.specs.Option.{option_map}
use Rattle.tickets.specs.Meaning.{pairs}
use Rattle.ledger.specs.declared.numbered.Numbered.{Numbered}
use Rattle.ledger.specs.Sets.{set_of, no_set, holds_back, lowest_holding}
use Rattle.ledger.proofs.Upward.{lowest_within}
use Rattle.ledger.proofs.write_sets.WriteSets.lowest_holding.Goals as goal

pub returns : goal.returns
unfolding lowest_holding
returns c =
    let p = holds_back c.args.replica (pairs c.args.set.now) in
    let held : c.deref.result.now ≡ vec_items c.args.self.now.given.items = c.deref.ensures.value in
    let below : c.place.result ≡ c.args.n - 1 = c.place.ensures.answer in
    let number : c.map.result ≡ option_map (λ i. i + 1) c.first_holding.result = search rules in
    record { answer = number ∙ ap (option_map (λ i. i + 1)) (c.first_holding.ensures.place ∙ (λ r. position (λ (x : Numbered). p (set_of x)) (take (below r) (held r)))) ∙ sym (lowest_within set_of p (vec_items c.args.self.now.given.items) no_set (c.args.n - 1) refl) }
