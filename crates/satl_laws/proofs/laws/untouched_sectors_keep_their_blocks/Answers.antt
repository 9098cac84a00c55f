use Rattle.satl_laws.proofs.Durable.{untouched}
use Rattle.satl_laws.proofs.laws.untouched_sectors_keep_their_blocks.Goals as goal

pub returns : goal.returns
returns c = untouched
