use Rattle.satl_unit.proofs.FunctionsLemmas.{codes_differ}
use Rattle.satl_unit.proofs.laws.function_codes_differ.Goals as goal

pub returns : goal.returns
returns c = codes_differ
