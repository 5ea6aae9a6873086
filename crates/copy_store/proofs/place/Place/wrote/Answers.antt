use Rattle.std.proofs.Common.{sym}
use Rattle.copy_store.proofs.Writes.{written_is}
use Rattle.copy_store.proofs.place.Place.wrote.Goals as goal

pub returns : goal.returns
returns c = record { answer = sym (written_is c.args.self.now) }
