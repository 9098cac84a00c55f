use Rattle.satl_scenarios.proofs.ArrivalRuns.{unit_unknown}
use Rattle.satl_scenarios.proofs.arrivals.another_logical_unit.Goals as goal

pub returns : goal.returns
returns c = unit_unknown
