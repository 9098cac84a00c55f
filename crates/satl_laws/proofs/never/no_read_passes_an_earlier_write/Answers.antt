use Rattle.satl_laws.proofs.OutcomesBehind.{no_read_passes}
use Rattle.satl_laws.proofs.never.no_read_passes_an_earlier_write.Goals as goal

pub returns : goal.returns
returns c = no_read_passes
