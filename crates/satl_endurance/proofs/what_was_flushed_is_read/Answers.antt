use Rattle.satl_endurance.proofs.Enduring.{flushed_is_read}
use Rattle.satl_endurance.proofs.what_was_flushed_is_read.Goals as goal

pub returns : goal.returns
returns c = flushed_is_read
