use Rattle.satl_scenarios.proofs.WaitingRuns.{set_full}
use Rattle.satl_scenarios.proofs.transfers.a_full_task_set.Goals as goal

pub returns : goal.returns
returns c = set_full
