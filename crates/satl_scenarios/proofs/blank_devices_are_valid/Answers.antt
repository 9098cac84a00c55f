use Rattle.satl_scenarios.proofs.Validity.{blank_valid}
use Rattle.satl_scenarios.proofs.blank_devices_are_valid.Goals as goal

pub returns : goal.returns
returns c = blank_valid
