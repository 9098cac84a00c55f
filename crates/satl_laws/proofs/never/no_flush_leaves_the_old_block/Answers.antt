use Rattle.satl_laws.proofs.OutcomesFlushed.{no_old_block}
use Rattle.satl_laws.proofs.never.no_flush_leaves_the_old_block.Goals as goal

pub returns : goal.returns
returns c = no_old_block
