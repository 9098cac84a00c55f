use Rattle.satl_scenarios.proofs.StandbyRuns.{cache_turned_off_at_rest}
use Rattle.satl_scenarios.proofs.standby.the_cache_turned_off_while_stopped.Goals as goal

pub returns : goal.returns
returns c = cache_turned_off_at_rest
