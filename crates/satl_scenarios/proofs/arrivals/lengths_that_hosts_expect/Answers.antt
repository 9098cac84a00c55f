use Rattle.satl_scenarios.proofs.ArrivalRuns.{lengths_carried}
use Rattle.satl_scenarios.proofs.arrivals.lengths_that_hosts_expect.Goals as goal

pub returns : goal.returns
returns c = lengths_carried
