use Rattle.satl_scenarios.proofs.PassRuns.{drive_identified}
use Rattle.satl_scenarios.proofs.passes.a_drive_identified.Goals as goal

pub returns : goal.returns
returns c = drive_identified
