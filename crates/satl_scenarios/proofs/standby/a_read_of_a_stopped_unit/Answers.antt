use Rattle.satl_scenarios.proofs.RefusedRuns.{not_ready}
use Rattle.satl_scenarios.proofs.standby.a_read_of_a_stopped_unit.Goals as goal

pub returns : goal.returns
returns c = not_ready
