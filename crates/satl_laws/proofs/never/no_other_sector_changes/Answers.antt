use Rattle.satl_laws.proofs.OutcomesElsewhere.{others_stay}
use Rattle.satl_laws.proofs.never.no_other_sector_changes.Goals as goal

pub returns : goal.returns
returns c = others_stay
