use Rattle.satl_scenarios.proofs.PieceRuns.{flaw_before_comparison}
use Rattle.satl_scenarios.proofs.commands.a_comparison_that_meets_a_flaw.Goals as goal

pub returns : goal.returns
returns c = flaw_before_comparison
