use Rattle.satl_scenarios.proofs.PassRuns.{block_unreadable}
use Rattle.satl_scenarios.proofs.passes.a_flaw_met_by_an_ata_command.Goals as goal

pub returns : goal.returns
returns c = block_unreadable
