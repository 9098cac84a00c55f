use Rattle.satl_scenarios.proofs.TransferRuns.{write_garbled}
use Rattle.satl_scenarios.proofs.flaws.a_glitch_partly_written.Goals as goal

pub returns : goal.returns
returns c = write_garbled
