use Rattle.satl_scenarios.proofs.PowerRuns.{task_gone}
use Rattle.satl_scenarios.proofs.power.power_with_a_task_pending.Goals as goal

pub returns : goal.returns
returns c = task_gone
