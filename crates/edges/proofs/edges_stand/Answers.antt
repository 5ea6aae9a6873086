use Rattle.edges.proofs.Edges.{edges}
use Rattle.edges.proofs.edges_stand.Goals as goal

pub returns : goal.returns
returns c = record { law = edges }
