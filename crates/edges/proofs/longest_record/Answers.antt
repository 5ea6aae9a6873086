use Rattle.record_format.proofs.Lengths.{size_laws}
use Rattle.edges.proofs.longest_record.Goals as goal

pub returns : goal.returns
returns c = record { law = record { most = size_laws.longest; reached = size_laws.reached } }
