use Rattle.satl_scenarios.proofs.PowerRuns.{cache_off}
use Rattle.satl_scenarios.proofs.power.the_cache_turned_off.Goals as goal

pub returns : goal.returns
returns c = cache_off
