use Rattle.satl_scenarios.proofs.TransferRuns.{write_past_the_cache}
use Rattle.satl_scenarios.proofs.transfers.a_write_past_the_cache.Goals as goal

pub returns : goal.returns
returns c = write_past_the_cache
