use Rattle.satl_scenarios.proofs.KeepingLaws.{of_durable}
use Rattle.satl_scenarios.proofs.PowerRuns.{flush_keeps_beside_a_write}
use Rattle.satl_scenarios.proofs.power.power_after_a_flush_and_a_write_elsewhere.Goals as goal

pub returns-clause-run : goal.returns-clause-run
returns-clause-run c = flush_keeps_beside_a_write

pub returns-clause-law : goal.returns-clause-law
returns-clause-law c = of_durable
