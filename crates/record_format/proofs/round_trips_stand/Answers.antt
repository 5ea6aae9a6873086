use Rattle.record_format.proofs.Back.{reads_back}
use Rattle.record_format.proofs.Forth.{is_a_run, writes_back}
use Rattle.record_format.proofs.round_trips_stand.Goals as goal

pub returns : goal.returns
returns c = record { law = record { reads_back = reads_back; is_a_run = is_a_run; writes_back = writes_back } }
