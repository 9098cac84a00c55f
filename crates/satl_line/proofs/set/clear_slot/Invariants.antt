use Rattle.satl_line.proofs.BarredLemmas.{Clearing}
use Rattle.satl_line.proofs.set.clear_slot.Given as goal

abbrev pub invariant-loop-rest : goal.invariant-loop-rest
invariant-loop-rest l = Clearing l.fn.masks l.masks l.slot l.rest l.barred

abbrev pub decreases-loop-rest : goal.decreases-loop-rest
decreases-loop-rest l = l.rest
