use Rattle.satl_scenarios.proofs.FlawRuns.{read_garbled}
use Rattle.satl_scenarios.proofs.flaws.a_glitch.Goals as goal

pub returns : goal.returns
returns c = read_garbled
