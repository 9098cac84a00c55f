use Rattle.satl_flight.proofs.QueueLemmas.{empty_lending}
use Rattle.satl_flight.proofs.queue.Queue.new.Goals as goal

pub invariant_of-result : goal.invariant_of-result
invariant_of-result c = empty_lending _ _ _ c.in_ok-new.ensures c.in_ok-new-2.ensures c.keeping.ensures
