use Rattle.satl_line.proofs.BarredLemmas.{barred_mask}
use Rattle.satl_line.proofs.set.TaskSet.barred.Goals as goal

pub returns : goal.returns
returns c =
    barred_mask c.self.inside.slots.items c.self.inside.order c.self.inside.masks c.args.self.now c.self.inside.barred c.self.view_is c.self.invariant.0.taken c.self.invariant.0.masked c.have_64_bits.ensures c.self.invariant.4
