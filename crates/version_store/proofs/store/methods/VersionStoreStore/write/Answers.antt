use Rattle.std.proofs.Common.{refl, rules}
use Rattle.stores.proofs.Seen.{write_seen}
use Rattle.versions.specs.Meaning.{history_of}
use Rattle.version_store.specs.Meaning.{meaning_of, place_of}
use Rattle.version_store.proofs.Written.{own_write}
use Rattle.version_store.proofs.store.methods.VersionStoreStore.write.Goals as goal

pub returns : goal.returns
returns c =
    let s = c.args.self.now in
    let h = history_of s.history in
    let j = c.args.object in
    let v = c.args.value in
    let w =
    write_seen (meaning_of s) (place_of h) s.places.seats refl c.args.place j v _ (λ x r y made. own_write h x y j v r (search rules) (search rules) (search rules)) _ _ c.update.ensures.after in
    record { answer = w.0; after = w.1 }
