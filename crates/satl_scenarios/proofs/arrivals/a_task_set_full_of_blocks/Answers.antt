use Rattle.satl_scenarios.proofs.ArrivalRuns.{blocks_full}
use Rattle.satl_scenarios.proofs.arrivals.a_task_set_full_of_blocks.Goals as goal

pub returns : goal.returns
returns c = blocks_full
