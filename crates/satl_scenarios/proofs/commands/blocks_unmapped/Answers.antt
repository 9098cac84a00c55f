use Rattle.satl_scenarios.proofs.CommandRuns.{blocks_unmapped}
use Rattle.satl_scenarios.proofs.commands.blocks_unmapped.Goals as goal

pub returns : goal.returns
returns c = blocks_unmapped
