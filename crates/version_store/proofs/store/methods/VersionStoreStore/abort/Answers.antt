use Rattle.std.proofs.Common.{refl, ap, ◌∙◌}
use Rattle.stores.proofs.Seen.{closed_seen}
use Rattle.versions.specs.Meaning.{history_of}
use Rattle.version_store.specs.Meaning.{meaning_of, place_of, store_over}
use Rattle.version_store.proofs.store.methods.VersionStoreStore.abort.Goals as goal

pub returns-clause-after : goal.returns-clause-after
returns-clause-after c =
    let s = c.args.self.now in
    let h = history_of s.history in
    ap (store_over h) c.close.ensures.after ∙ closed_seen (meaning_of s) (place_of h) s.places.seats refl c.args.place
