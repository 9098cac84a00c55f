use Rattle.satl_scenarios.proofs.CommandRuns.{unit_stopped_unflushed}
use Rattle.satl_scenarios.proofs.standby.a_unit_stopped_without_a_flush.Goals as goal

pub returns : goal.returns
returns c = unit_stopped_unflushed
