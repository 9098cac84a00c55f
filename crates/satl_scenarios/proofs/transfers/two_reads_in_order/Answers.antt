use Rattle.satl_scenarios.proofs.TransferRuns.{in_order}
use Rattle.satl_scenarios.proofs.transfers.two_reads_in_order.Goals as goal

pub returns : goal.returns
returns c = in_order
