use Rattle.std.proofs.Common.{◌≡◌, false, ◌||◌, ltb, sym, ap, ◌∙◌}
use Rattle.stores.specs.Model.{written, own_count}
use Rattle.copy_store.specs.Places.{place_of}
use Rattle.copy_store.proofs.Writes.{written_is, count_is}
use Rattle.copy_store.proofs.place.Place.has_room.Goals as goal

pub returns-else-has : goal.returns-else-has
returns-else-has c =
    let x = c.args.self.now in
    let new : written (place_of x) c.args.object ≡ false = ap (λ f. f c.args.object) (written_is x) ∙ sym c.if-has.ensures.answer in
    record { answer = ap (λ n. ltb n 8) (c.count.ensures.answer ∙ count_is x) ∙ ap (λ b. b || ltb (own_count (place_of x)) 8) (sym new) }
