use Rattle.satl_renaming.proofs.RetriedRuns.{of_arrival_order}
use Rattle.satl_renaming.proofs.a_tag_is_used_three_times.Goals as goal

pub returns-clause-law : goal.returns-clause-law
returns-clause-law c = of_arrival_order
