use Rattle.satl_step.proofs.LostLemmas.{unplugged_allows_none}
use Rattle.satl_step.proofs.laws.an_unplugged_drive_is_allowed_no_call.Goals as goal

pub returns : goal.returns
returns c = unplugged_allows_none
