use Rattle.satl_text.proofs.TotalsLemmas.{totals_grow}
use Rattle.satl_text.proofs.laws.totals_grow.Goals as goal

pub returns : goal.returns
returns c = totals_grow
