use Rattle.satl_core.specs.Leaving.{is_within}
use Rattle.satl_core.proofs.LeavingLemmas.{WaitBefore}
use Rattle.satl_core.proofs.leaving.has_outstanding.Given as goal

abbrev pub invariant-loop-place : goal.invariant-loop-place
invariant-loop-place l = WaitBefore (is_within l.scope) l.queue.flying l.place l.queue.tasks
