use Rattle.record_format.proofs.Lengths.{size_laws}
use Rattle.record_format.proofs.sizes_stand.Goals as goal

pub returns : goal.returns
returns c = record { law = size_laws }
