use Rattle.satl_base.specs.Moves.{stay}
use Rattle.satl_base.proofs.laws.moves_may_stay.Goals as goal

pub returns : goal.returns
returns c = λ allows cells. stay
