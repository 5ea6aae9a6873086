-- The board with the own writes played, and the places overtaken.
use Rattle.std.proofs.Common.{◌≡◌, ◌+◌, map, length, Ok, sym, refl, ap, ◌∙◌, arith, rules}
use Rattle.marks.specs.Marked.{marked}
use Rattle.stores.specs.Model.{bind, leaves, spread, written, overtaken_by}
use Rattle.stores.proofs.Steps.{length-played}
use Rattle.stores.proofs.Seen.{place_seen, overtaken_seen}
use Rattle.copy_store.specs.Copied.{meaning_of}
use Rattle.copy_store.specs.Kept.{few_overtaken}
use Rattle.copy_store.specs.Places.{place_of}
use Rattle.copy_store.proofs.store.CopyStore.land.Goals as goal

pub invariant_of-self-2-clause-whole : goal.invariant_of-self-2-clause-whole
invariant_of-self-2-clause-whole c = ap length c.play.ensures.after ∙ length-played _ _ ∙ c.args.self.now.whole

pub invariant_of-self-2-clause-few : goal.invariant_of-self-2-clause-few
invariant_of-self-2-clause-few c =
    let old = c.args.self.now.places in
    let new = c.for_each.new.self in
    let w = marked c.wrote-wrote.result in
    let long : length new.seats ≡ length old.seats = omega (arith, new.sixteen, old.sixteen) in
    few_overtaken w old.seats new.seats (overtaken_seen place_of w _ (λ x y made. search rules) old.seats new.seats long c.for_each.ensures.after) c.args.self.now.few

pub returns-clause-after : goal.returns-clause-after
returns-clause-after c =
    let s = c.args.self.now in
    let m = meaning_of s in
    let w = marked c.wrote-wrote.result in
    let own : w ≡ written (place_of c.in_ok-open.open.now) = c.wrote-wrote.ensures.answer in
    let long : length c.for_each.new.self.seats ≡ length s.places.seats = omega (arith, c.for_each.new.self.sixteen, s.places.sixteen) in
    let places = overtaken_seen place_of w _ (λ x y made. search rules) s.places.seats c.for_each.new.self.seats long c.for_each.ensures.after in
    (λ i. record { board = c.play.ensures.after i; commits = s.commits + 1; most = 65535; places = places i })
    ∙ (λ i. record { board = (spread m (place_of c.in_ok-open.open.now).own).board; commits = s.commits + 1; most = 65535; places = map (overtaken_by (own i)) m.places })
    ∙ ap (λ r. leaves r (λ pl. spread m pl.own) m) (sym (place_seen m place_of s.places.seats refl c.args.place ∙ ap (λ r. bind r (λ x. Ok (place_of x))) c.in_ok-open.ensures.answer))
