use Rattle.satl_disk.proofs.TagsLemmas.{empty_queue}
use Rattle.satl_disk.proofs.drive.ModelDrive.cut_link.Goals as goal

pub invariant_of-self : goal.invariant_of-self
invariant_of-self c = (c.self.invariant.0, c.self.invariant.1, empty_queue _ c.clear.new.self c.clear.ensures)
