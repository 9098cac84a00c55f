use Rattle.satl_scenarios.proofs.TransferRuns.{read_wakes}
use Rattle.satl_scenarios.proofs.transfers.a_read_in_standby.Goals as goal

pub returns : goal.returns
returns c = read_wakes
