use Rattle.std.proofs.Common.{refl, rules}
use Rattle.stores.proofs.Seen.{write_seen}
use Rattle.copy_store.specs.Copied.{meaning_of}
use Rattle.copy_store.specs.Places.{place_of}
use Rattle.copy_store.proofs.store.calls.CopyStoreStore.write.Goals as goal

pub returns-clause-after : goal.returns-clause-after
returns-clause-after c =
    let s = c.args.self.now in
    (write_seen (meaning_of s) place_of s.places.seats refl c.args.place c.args.object c.args.value _ (λ x r y made. search rules) _ _ c.update.ensures.after).1
