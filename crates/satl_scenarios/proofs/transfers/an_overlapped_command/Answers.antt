use Rattle.satl_scenarios.proofs.WaitingRuns.{overlap}
use Rattle.satl_scenarios.proofs.transfers.an_overlapped_command.Goals as goal

pub returns : goal.returns
returns c = overlap
