use Rattle.std.proofs.Common.{sym}
use Rattle.versions.proofs.Held.{held_count}
use Rattle.versions.proofs.own_writes.OwnWrites.count.Goals as goal

pub returns : goal.returns
returns c = record { answer = sym (held_count c.args.self.now) }
