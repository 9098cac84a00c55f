use Rattle.satl_base.specs.Moves.{Passes}
use Rattle.satl_base.proofs.MovesLemmas.{moves_of_part}
use Rattle.satl_base.proofs.laws.parts_are_moves.Goals as goal

pub returns : goal.returns
returns c = λ allows pairs x y all part. moves_of_part (Passes allows) pairs x y all part
