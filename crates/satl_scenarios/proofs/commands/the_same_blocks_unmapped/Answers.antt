use Rattle.satl_scenarios.proofs.PieceRuns.{same_trimmed}
use Rattle.satl_scenarios.proofs.commands.the_same_blocks_unmapped.Goals as goal

pub returns : goal.returns
returns c = same_trimmed
