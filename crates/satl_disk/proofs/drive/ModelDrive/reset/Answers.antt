use Rattle.std.proofs.Common.{arith}
use Rattle.satl_disk.proofs.TagsLemmas.{empty_queue}
use Rattle.satl_disk.proofs.drive.ModelDrive.reset.Goals as goal

pub invariant_of-self : goal.invariant_of-self
invariant_of-self c = (omega (arith, c.self.invariant.0, c.tear_all.ensures.size), c.self.invariant.1, empty_queue _ c.clear.new.self c.clear.ensures)
