use Rattle.satl_laws.proofs.CutShort.{cut_short_is_a_run}
use Rattle.satl_laws.proofs.laws.a_run_cut_short_is_a_run.Goals as goal

pub returns : goal.returns
returns c = cut_short_is_a_run
