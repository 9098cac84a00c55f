use Rattle.satl_renaming.proofs.RetriedRuns.{of_order_under_errors}
use Rattle.satl_renaming.proofs.a_tag_is_used_again_behind_an_abort.Goals as goal

pub returns-clause-law : goal.returns-clause-law
returns-clause-law c = of_order_under_errors
