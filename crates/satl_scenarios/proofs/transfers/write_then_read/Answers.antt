use Rattle.satl_scenarios.proofs.TransferRuns.{read_after_write}
use Rattle.satl_scenarios.proofs.transfers.write_then_read.Goals as goal

pub returns : goal.returns
returns c = read_after_write
