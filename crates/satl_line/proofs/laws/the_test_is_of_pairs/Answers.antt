use Rattle.satl_line.specs.Conflict.{conflicts}
use Rattle.satl_line.proofs.EligibleLemmas.{eligible_pairs}
use Rattle.satl_line.proofs.laws.the_test_is_of_pairs.Goals as goal

pub returns : goal.returns
returns c = λ tasks place task is. eligible_pairs conflicts tasks place task is
