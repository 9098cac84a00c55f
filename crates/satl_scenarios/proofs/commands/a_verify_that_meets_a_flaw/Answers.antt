use Rattle.satl_scenarios.proofs.CommandRuns.{flaw_found}
use Rattle.satl_scenarios.proofs.commands.a_verify_that_meets_a_flaw.Goals as goal

pub returns : goal.returns
returns c = flaw_found
