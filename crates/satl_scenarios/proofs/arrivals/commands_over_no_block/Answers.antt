use Rattle.satl_scenarios.proofs.ArrivalRuns.{nothing_to_do}
use Rattle.satl_scenarios.proofs.arrivals.commands_over_no_block.Goals as goal

pub returns : goal.returns
returns c = nothing_to_do
