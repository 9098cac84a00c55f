use Rattle.satl_line.proofs.EndingLemmas.{ends-length, ends-sound}
use Rattle.satl_line.proofs.laws.endings_keep_the_cells.Goals as goal

pub returns-clause-count : goal.returns-clause-count
returns-clause-count c = λ cache_on task outcome old new e. ends-length cache_on task outcome old new e

pub returns-clause-sound : goal.returns-clause-sound
returns-clause-sound c = λ cache_on task outcome old new sound e. ends-sound cache_on task outcome old new sound e
