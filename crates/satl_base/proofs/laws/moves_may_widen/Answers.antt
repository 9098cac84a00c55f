use Rattle.satl_base.proofs.MovesLemmas.{moves_weaker}
use Rattle.satl_base.proofs.laws.moves_may_widen.Goals as goal

pub returns : goal.returns
returns c = λ few more x y wider moves. moves_weaker wider moves
