use Rattle.satl_line.specs.Conflict.{conflicts}
use Rattle.satl_line.proofs.EligibleLemmas.{eligible_kept, eligible_left}
use Rattle.satl_line.proofs.laws.departures_keep_eligible_tasks.Goals as goal

pub returns-clause-one : goal.returns-clause-one
returns-clause-one c = λ tasks place left task is other e. eligible_left conflicts tasks place left task is other e

pub returns-clause-many : goal.returns-clause-many
returns-clause-many c = λ keeps tasks task stays e. eligible_kept conflicts keeps tasks task stays e
