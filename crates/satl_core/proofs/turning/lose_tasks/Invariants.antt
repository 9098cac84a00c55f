use Rattle.std.proofs.Common.{◌≡◌, ◌≤◌, ◌+◌, ◌++◌, [], length}
use Rattle.std.specs.List.{AllByRecursion}
use Rattle.satl_core.specs.Layer.{held_pages, most_replies}
use Rattle.satl_core.specs.Turning.{lost_replies}
use Rattle.satl_core.proofs.turning.lose_tasks.Given as goal

abbrev pub invariant-loop : goal.invariant-loop
invariant-loop l = record {
  count : length l.queue.tasks + l.counter ≡ length l.initial.queue.tasks;
  idle : l.queue.flying ≡ [];
  few : AllByRecursion (λ h. length h.entry.body ≤ 4096) l.queue.tasks;
  answers : l.replies ++ lost_replies l.descriptor l.queue.tasks ≡ l.initial.replies ++ lost_replies l.initial.descriptor l.initial.queue.tasks;
  room : length l.replies + length l.queue.tasks ≤ most_replies;
  free : l.pool.free + held_pages l.queue.tasks ≡ l.initial.pool.free + held_pages l.initial.queue.tasks;
  out : l.pool.out + held_pages l.initial.queue.tasks ≡ l.initial.pool.out + held_pages l.queue.tasks;
  same : l.descriptor ≡ l.initial.descriptor;
}
