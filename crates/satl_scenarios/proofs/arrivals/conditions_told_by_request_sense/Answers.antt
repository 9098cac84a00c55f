use Rattle.satl_scenarios.proofs.ArrivalRuns.{conditions_told}
use Rattle.satl_scenarios.proofs.arrivals.conditions_told_by_request_sense.Goals as goal

pub returns : goal.returns
returns c = conditions_told
