use Rattle.satl_scenarios.proofs.FunctionRuns.{tasks_aborted}
use Rattle.satl_scenarios.proofs.functions.tasks_aborted_as_a_set.Goals as goal

pub returns : goal.returns
returns c = tasks_aborted
