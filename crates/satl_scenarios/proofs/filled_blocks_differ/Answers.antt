use Rattle.satl_scenarios.proofs.Validity.{filled_differ}
use Rattle.satl_scenarios.proofs.filled_blocks_differ.Goals as goal

pub returns : goal.returns
returns c = filled_differ
