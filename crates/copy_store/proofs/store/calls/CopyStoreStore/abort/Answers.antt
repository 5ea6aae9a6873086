use Rattle.std.proofs.Common.{map, refl, ap, ◌∙◌}
use Rattle.stores.proofs.Seen.{with_places, closed_seen}
use Rattle.copy_store.specs.Copied.{meaning_of}
use Rattle.copy_store.specs.Places.{place_of, seat_of}
use Rattle.copy_store.proofs.store.calls.CopyStoreStore.abort.Goals as goal

pub returns-clause-after : goal.returns-clause-after
returns-clause-after c =
    let m = meaning_of c.args.self.now in
    ap (λ seats. with_places m (map seat_of seats)) c.close.ensures.after ∙ closed_seen m place_of c.args.self.now.places.seats refl c.args.place
