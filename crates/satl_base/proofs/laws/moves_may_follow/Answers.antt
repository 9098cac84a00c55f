use Rattle.satl_base.proofs.MovesLemmas.{moves_on}
use Rattle.satl_base.proofs.laws.moves_may_follow.Goals as goal

pub returns : goal.returns
returns c = λ allows x y z first second. moves_on first second
