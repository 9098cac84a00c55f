use Rattle.satl_scenarios.proofs.FlawRuns.{write_torn}
use Rattle.satl_scenarios.proofs.flaws.a_write_flaw_partly_written.Goals as goal

pub returns : goal.returns
returns c = write_torn
