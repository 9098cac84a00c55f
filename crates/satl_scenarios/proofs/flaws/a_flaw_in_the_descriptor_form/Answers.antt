use Rattle.satl_scenarios.proofs.FlawRuns.{flaw_described}
use Rattle.satl_scenarios.proofs.flaws.a_flaw_in_the_descriptor_form.Goals as goal

pub returns : goal.returns
returns c = flaw_described
