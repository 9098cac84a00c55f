use Rattle.satl_scenarios.proofs.StandbyRuns.{block_read_through}
use Rattle.satl_scenarios.proofs.standby.a_read_by_an_ata_command_while_stopped.Goals as goal

pub returns : goal.returns
returns c = block_read_through
