use Rattle.satl_scenarios.proofs.FunctionRuns.{nexus_is_reset}
use Rattle.satl_scenarios.proofs.functions.a_nexus_reset.Goals as goal

pub returns : goal.returns
returns c = nexus_is_reset
