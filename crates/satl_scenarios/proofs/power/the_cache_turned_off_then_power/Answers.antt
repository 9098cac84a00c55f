use Rattle.satl_scenarios.proofs.PowerRuns.{cache_back}
use Rattle.satl_scenarios.proofs.power.the_cache_turned_off_then_power.Goals as goal

pub returns : goal.returns
returns c = cache_back
