use Rattle.satl_scenarios.proofs.PieceRuns.{garbled_partly}
use Rattle.satl_scenarios.proofs.commands.the_same_block_partly_written.Goals as goal

pub returns : goal.returns
returns c = garbled_partly
