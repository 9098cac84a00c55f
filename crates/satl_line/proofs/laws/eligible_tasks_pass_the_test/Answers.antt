use Rattle.satl_line.specs.Conflict.{conflicts}
use Rattle.satl_line.proofs.EligibleLemmas.{eligible_passes, eligible_stands}
use Rattle.satl_line.proofs.laws.eligible_tasks_pass_the_test.Goals as goal

pub returns-clause-passes : goal.returns-clause-passes
returns-clause-passes c = λ tasks place task is passes. eligible_passes conflicts tasks place task is passes

pub returns-clause-stands : goal.returns-clause-stands
returns-clause-stands c = λ tasks task e. eligible_stands conflicts tasks task e
