use Rattle.satl_scenarios.proofs.Validity.{blank_real}
use Rattle.satl_scenarios.proofs.blank_devices_are_real.Goals as goal

pub returns : goal.returns
returns c = blank_real
