use Rattle.satl_line.specs.Conflict.{conflicts}
use Rattle.satl_line.proofs.EligibleLemmas.{eligible_come}
use Rattle.satl_line.proofs.laws.arrivals_keep_eligible_tasks.Goals as goal

pub returns : goal.returns
returns c = λ tasks more task e. eligible_come conflicts tasks more task e
