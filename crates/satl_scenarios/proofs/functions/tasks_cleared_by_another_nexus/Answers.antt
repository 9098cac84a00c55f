use Rattle.satl_scenarios.proofs.FunctionRuns.{set_cleared}
use Rattle.satl_scenarios.proofs.functions.tasks_cleared_by_another_nexus.Goals as goal

pub returns : goal.returns
returns c = set_cleared
