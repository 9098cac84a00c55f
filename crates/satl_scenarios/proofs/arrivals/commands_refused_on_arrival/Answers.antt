use Rattle.satl_scenarios.proofs.RefusedRuns.{all_refused}
use Rattle.satl_scenarios.proofs.arrivals.commands_refused_on_arrival.Goals as goal

pub returns : goal.returns
returns c = all_refused
