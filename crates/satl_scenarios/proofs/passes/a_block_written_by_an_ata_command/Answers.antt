use Rattle.satl_scenarios.proofs.PassRuns.{block_written}
use Rattle.satl_scenarios.proofs.passes.a_block_written_by_an_ata_command.Goals as goal

pub returns : goal.returns
returns c = block_written
