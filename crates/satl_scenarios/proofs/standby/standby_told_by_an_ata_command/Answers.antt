use Rattle.satl_scenarios.proofs.StandbyRuns.{standby_checked}
use Rattle.satl_scenarios.proofs.standby.standby_told_by_an_ata_command.Goals as goal

pub returns : goal.returns
returns c = standby_checked
