use Rattle.satl_laws.proofs.OutcomesBehind.{no_write_passes}
use Rattle.satl_laws.proofs.never.no_write_passes_an_earlier_write.Goals as goal

pub returns : goal.returns
returns c = no_write_passes
