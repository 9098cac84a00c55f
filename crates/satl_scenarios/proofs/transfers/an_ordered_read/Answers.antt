use Rattle.satl_scenarios.proofs.TransferRuns.{ordered_waits}
use Rattle.satl_scenarios.proofs.transfers.an_ordered_read.Goals as goal

pub returns : goal.returns
returns c = ordered_waits
