use Rattle.satl_scenarios.proofs.CommandRuns.{same_everywhere}
use Rattle.satl_scenarios.proofs.commands.the_same_block_written.Goals as goal

pub returns : goal.returns
returns c = same_everywhere
