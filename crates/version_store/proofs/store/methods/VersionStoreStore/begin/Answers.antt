use Rattle.std.proofs.Common.{refl, rules}
use Rattle.stores.proofs.Seen.{opened_with_seen}
use Rattle.versions.specs.Meaning.{history_of}
use Rattle.version_store.specs.Meaning.{meaning_of, place_of}
use Rattle.version_store.proofs.store.methods.VersionStoreStore.begin.Goals as goal

pub returns-clause-after : goal.returns-clause-after
returns-clause-after c =
    let s = c.args.self.now in
    opened_with_seen (meaning_of s) (place_of (history_of s.history)) s.places.seats refl c.args.place _ (λ x made. search rules) _ c.open_with.ensures.after
