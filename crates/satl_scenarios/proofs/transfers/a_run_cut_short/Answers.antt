use Rattle.satl_scenarios.proofs.WaitingRuns.{run_cut}
use Rattle.satl_scenarios.proofs.transfers.a_run_cut_short.Goals as goal

pub returns : goal.returns
returns c = run_cut
