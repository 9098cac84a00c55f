use Rattle.satl_scenarios.proofs.CommandRuns.{blocks_miscompared}
use Rattle.satl_scenarios.proofs.commands.blocks_miscompared.Goals as goal

pub returns : goal.returns
returns c = blocks_miscompared
