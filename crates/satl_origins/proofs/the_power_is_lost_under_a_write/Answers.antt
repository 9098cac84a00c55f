use Rattle.satl_origins.proofs.LostRuns.{none_of_the_other, of_origins}
use Rattle.satl_origins.proofs.the_power_is_lost_under_a_write.Goals as goal

pub returns-clause-run : goal.returns-clause-run
returns-clause-run c = of_origins

pub returns-clause-apart : goal.returns-clause-apart
returns-clause-apart c = none_of_the_other
