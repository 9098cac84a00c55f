use Rattle.satl_base.specs.Moves.{Passes}
use Rattle.satl_line.proofs.EndingLemmas.{ends_by_moves}
use Rattle.satl_line.proofs.laws.endings_are_moves.Goals as goal

pub returns : goal.returns
returns c = λ allows cache_on task outcome old new may e. ends_by_moves (Passes allows) cache_on task outcome old new may e
