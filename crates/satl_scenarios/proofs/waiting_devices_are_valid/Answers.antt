use Rattle.satl_scenarios.proofs.Validity.{waiting_valid}
use Rattle.satl_scenarios.proofs.waiting_devices_are_valid.Goals as goal

pub returns : goal.returns
returns c = waiting_valid
