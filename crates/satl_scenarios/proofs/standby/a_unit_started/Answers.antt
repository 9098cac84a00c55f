use Rattle.satl_scenarios.proofs.CommandRuns.{unit_started}
use Rattle.satl_scenarios.proofs.standby.a_unit_started.Goals as goal

pub returns : goal.returns
returns c = unit_started
