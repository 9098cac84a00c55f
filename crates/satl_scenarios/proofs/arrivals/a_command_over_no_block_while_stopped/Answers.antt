use Rattle.satl_scenarios.proofs.ArrivalRuns.{nothing_to_do_at_rest}
use Rattle.satl_scenarios.proofs.arrivals.a_command_over_no_block_while_stopped.Goals as goal

pub returns : goal.returns
returns c = nothing_to_do_at_rest
