use Rattle.tickets.proofs.Playing.{sharing_laws}
use Rattle.tickets.proofs.laws.sharing_laws_stand.Goals as goal

pub returns : goal.returns
returns c = record { law = sharing_laws }
