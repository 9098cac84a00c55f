use Rattle.satl_scenarios.proofs.PassRuns.{power_mode_checked}
use Rattle.satl_scenarios.proofs.passes.a_power_mode_checked.Goals as goal

pub returns : goal.returns
returns c = power_mode_checked
