use Rattle.satl_line.proofs.EligibleLemmas.{conflicts-comm, eligible_do_not_conflict}
use Rattle.satl_line.proofs.laws.eligible_tasks_do_not_conflict.Goals as goal

pub returns-clause-both_ways : goal.returns-clause-both_ways
returns-clause-both_ways c = λ a b. conflicts-comm a b

pub returns-clause-apart : goal.returns-clause-apart
returns-clause-apart c = λ tasks a b e f. eligible_do_not_conflict tasks a b e f
