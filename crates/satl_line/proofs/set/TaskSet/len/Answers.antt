use Rattle.satl_line.proofs.SlotsLemmas.{own_of}
use Rattle.satl_line.proofs.set.TaskSet.len.Goals as goal

pub returns-clause-own : goal.returns-clause-own
returns-clause-own c = own_of _ c.args.self.now c.self.invariant.0 c.self.view_is
