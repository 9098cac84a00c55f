use Rattle.satl_scenarios.proofs.TransferRuns.{in_reverse}
use Rattle.satl_scenarios.proofs.transfers.two_reads_in_reverse.Goals as goal

pub returns : goal.returns
returns c = in_reverse
