use Rattle.satl_scenarios.proofs.CommandRuns.{unit_stopped}
use Rattle.satl_scenarios.proofs.standby.a_unit_stopped.Goals as goal

pub returns : goal.returns
returns c = unit_stopped
