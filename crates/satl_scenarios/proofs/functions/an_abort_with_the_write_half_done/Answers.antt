use Rattle.satl_scenarios.proofs.WaitingRuns.{abort_in_the_middle}
use Rattle.satl_scenarios.proofs.functions.an_abort_with_the_write_half_done.Goals as goal

pub returns : goal.returns
returns c = abort_in_the_middle
