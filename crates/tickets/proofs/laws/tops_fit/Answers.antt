use Rattle.tickets.proofs.Playing.{tops_fit}
use Rattle.tickets.proofs.laws.tops_fit.Goals as goal

pub returns : goal.returns
returns c = record { law = tops_fit }
