use Rattle.satl_scenarios.proofs.PassRuns.{features_set}
use Rattle.satl_scenarios.proofs.passes.a_cache_disabled_by_set_features.Goals as goal

pub returns : goal.returns
returns c = features_set
