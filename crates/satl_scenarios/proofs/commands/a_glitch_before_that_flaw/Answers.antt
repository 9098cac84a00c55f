use Rattle.satl_scenarios.proofs.PieceRuns.{garbled_in_the_first_piece}
use Rattle.satl_scenarios.proofs.commands.a_glitch_before_that_flaw.Goals as goal

pub returns : goal.returns
returns c = garbled_in_the_first_piece
