use Rattle.satl_line.proofs.SlotsLemmas.{are_masks}
use Rattle.satl_line.specs.Layout.{tasks_in}
use Rattle.satl_line.proofs.set.TaskSet.masks.Goals as goal

pub returns : goal.returns
returns c = are_masks (tasks_in c.self.inside.slots.items c.self.inside.order) c.args.self.now c.self.inside.masks c.self.view_is c.self.invariant.0.masked
