use Rattle.satl_scenarios.proofs.FlawRuns.{read_spared}
use Rattle.satl_scenarios.proofs.flaws.a_glitch_that_is_not_met.Goals as goal

pub returns : goal.returns
returns c = read_spared
