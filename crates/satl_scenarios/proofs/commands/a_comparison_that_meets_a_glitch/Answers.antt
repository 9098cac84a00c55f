use Rattle.satl_scenarios.proofs.PieceRuns.{comparison_garbled}
use Rattle.satl_scenarios.proofs.commands.a_comparison_that_meets_a_glitch.Goals as goal

pub returns : goal.returns
returns c = comparison_garbled
