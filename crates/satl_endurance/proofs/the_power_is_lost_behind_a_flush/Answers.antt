use Rattle.satl_endurance.proofs.FlushedRuns.{of_endurance}
use Rattle.satl_endurance.proofs.the_power_is_lost_behind_a_flush.Goals as goal

pub returns : goal.returns
returns c = of_endurance
