use Rattle.satl_scenarios.proofs.PieceRuns.{torn_in_the_second_piece}
use Rattle.satl_scenarios.proofs.commands.a_flaw_in_the_second_piece.Goals as goal

pub returns : goal.returns
returns c = torn_in_the_second_piece
