use Rattle.std.proofs.Common.{◌≡◌, drop}
use Rattle.std.specs.List.{list_any}
use Rattle.satl_line.specs.Tasks.{entries_of}
use Rattle.satl_core.specs.Leaving.{is_within}
use Rattle.satl_core.proofs.leaving.has_any.Given as goal

abbrev pub invariant-loop-place : goal.invariant-loop-place
invariant-loop-place l = list_any (is_within l.scope) (entries_of l.queue.tasks) ≡ list_any (is_within l.scope) (entries_of (drop l.place l.queue.tasks))
