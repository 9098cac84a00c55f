use Rattle.satl_endurance.proofs.Enduring.{flushed_endures}
use Rattle.satl_endurance.proofs.what_was_flushed_endures.Goals as goal

pub returns : goal.returns
returns c = flushed_endures
