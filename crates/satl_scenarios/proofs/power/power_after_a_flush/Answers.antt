use Rattle.satl_scenarios.proofs.PowerRuns.{flush_keeps}
use Rattle.satl_scenarios.proofs.power.power_after_a_flush.Goals as goal

pub returns : goal.returns
returns c = flush_keeps
