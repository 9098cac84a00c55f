use Rattle.satl_scenarios.proofs.PowerRuns.{later_write_kept}
use Rattle.satl_scenarios.proofs.power.power_after_a_flush_and_a_write_that_survives.Goals as goal

pub returns : goal.returns
returns c = later_write_kept
