use Rattle.std.proofs.Common.{ap, ◌∙◌}
use Rattle.versions.specs.Writes.{own_of}
use Rattle.versions.specs.Meaning.{history_of}
use Rattle.version_store.specs.Meaning.{store_over}
use Rattle.version_store.proofs.Landing.{store_lands}
use Rattle.version_store.proofs.store.VersionStore.land.Goals as goal

pub returns-clause-after : goal.returns-clause-after
returns-clause-after c =
    let s = c.args.self.now in
    ap (λ h. store_over h s.places.seats) c.land.ensures.after ∙ store_lands (history_of s.history) (own_of c.args.own.now) s.places.seats s.history.past s.begun
