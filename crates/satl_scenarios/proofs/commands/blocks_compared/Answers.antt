use Rattle.satl_scenarios.proofs.CommandRuns.{blocks_compared}
use Rattle.satl_scenarios.proofs.commands.blocks_compared.Goals as goal

pub returns : goal.returns
returns c = blocks_compared
