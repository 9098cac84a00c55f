use Rattle.satl_disk.proofs.TagsLemmas.{empty_queue}
use Rattle.satl_disk.proofs.drive.ModelDrive.cycle_power.Goals as goal

pub invariant_of-self-2 : goal.invariant_of-self-2
invariant_of-self-2 c = (c.self-2.invariant.0, c.self-2.invariant.1, empty_queue _ c.clear.new.self c.clear.ensures)
