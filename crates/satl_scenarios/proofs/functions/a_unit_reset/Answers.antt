use Rattle.satl_scenarios.proofs.FunctionRuns.{unit_reset}
use Rattle.satl_scenarios.proofs.functions.a_unit_reset.Goals as goal

pub returns : goal.returns
returns c = unit_reset
