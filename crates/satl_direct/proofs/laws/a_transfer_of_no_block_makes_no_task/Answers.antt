use Rattle.std.proofs.Common.{refl}
use Rattle.satl_direct.proofs.laws.a_transfer_of_no_block_makes_no_task.Goals as goal

pub returns-clause-read : goal.returns-clause-read
returns-clause-read c = λ s r form lba fua. refl

pub returns-clause-write : goal.returns-clause-write
returns-clause-write c = λ s r form lba fua. refl
