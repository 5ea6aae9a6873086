use Rattle.tickets.proofs.Playing.{playing_laws}
use Rattle.tickets.proofs.laws.playing_laws_stand.Goals as goal

pub returns : goal.returns
returns c = record { law = playing_laws }
