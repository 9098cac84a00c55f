use Rattle.satl_scenarios.proofs.FunctionRuns.{functions_queried}
use Rattle.satl_scenarios.proofs.functions.tasks_queried.Goals as goal

pub returns : goal.returns
returns c = functions_queried
