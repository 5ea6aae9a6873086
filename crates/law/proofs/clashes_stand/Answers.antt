use Rattle.law.proofs.clashes_stand.Goals as goal
use Rattle.law.proofs.Clashes.{clash_agrees, clash_is_sharing}

pub returns : goal.returns
returns c = record { agrees = clash_agrees; sharing = clash_is_sharing }
