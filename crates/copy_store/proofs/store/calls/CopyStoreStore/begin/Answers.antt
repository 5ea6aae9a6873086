use Rattle.std.proofs.Common.{◌≡◌, ◌≤◌, refl, ap, ◌∙◌, arith, rules}
use Rattle.stores.specs.Model.{own_count, fresh}
use Rattle.stores.proofs.Seated.{each_opened_with}
use Rattle.stores.proofs.Seen.{opened_with_seen}
use Rattle.copy_store.specs.Copied.{meaning_of}
use Rattle.copy_store.specs.Places.{place_of, own_writes}
use Rattle.copy_store.specs.Kept.{none_at_begin}
use Rattle.copy_store.proofs.store.calls.CopyStoreStore.begin.Goals as goal

pub invariant_of-self-clause-few : goal.invariant_of-self-clause-few
invariant_of-self-clause-few c =
    let s = c.args.self.now in
    each_opened_with (λ o. own_writes o ≤ 8) _ _ s.places.seats _ c.args.place s.few
    (λ x made.
    let begun : place_of x ≡ fresh s.board = search rules in
    omega (arith, ap own_count begun ∙ none_at_begin s.board)) c.open_with.ensures.after

pub returns-clause-after : goal.returns-clause-after
returns-clause-after c =
    let s = c.args.self.now in
    opened_with_seen (meaning_of s) place_of s.places.seats refl c.args.place _ (λ x made. search rules) _ c.open_with.ensures.after
