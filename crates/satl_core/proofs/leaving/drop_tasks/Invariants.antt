use Rattle.std.proofs.Common.{◌≡◌, ◌≤◌, ◌+◌, ◌-◌, length}
use Rattle.satl_core.specs.Layer.{held_pages}
use Rattle.satl_core.specs.Leaving.{AreWaiting, is_within, left_by}
use Rattle.satl_core.proofs.LeavingLemmas.{AreOthers}
use Rattle.satl_core.proofs.leaving.drop_tasks.Given as goal

abbrev pub invariant-loop-place : goal.invariant-loop-place
invariant-loop-place l = record {
  within : l.place ≤ length l.queue.tasks;
  same : left_by (is_within l.scope) l.queue.tasks ≡ left_by (is_within l.initial.scope) l.initial.queue.tasks;
  front : AreOthers (is_within l.scope) l.place l.queue.tasks;
  waiting : AreWaiting (is_within l.scope) l.queue.flying l.queue.tasks;
  flying : l.queue.flying ≡ l.initial.queue.flying;
  slots : l.queue.slots ≡ l.initial.queue.slots;
  free : l.pool.free + held_pages l.queue.tasks ≡ l.initial.pool.free + held_pages l.initial.queue.tasks;
  out : l.pool.out + held_pages l.initial.queue.tasks ≡ l.initial.pool.out + held_pages l.queue.tasks;
  scope : l.scope ≡ l.initial.scope;
}

abbrev pub decreases-loop-place : goal.decreases-loop-place
decreases-loop-place l = length l.queue.tasks - l.place
