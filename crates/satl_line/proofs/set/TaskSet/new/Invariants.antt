use Rattle.std.proofs.Common.{◌≡◌, ◌≤◌, length, vec_capacity}
use Rattle.satl_line.proofs.SlotsLemmas.{FreeUpTo}
use Rattle.satl_line.proofs.set.TaskSet.new.Given as goal

abbrev pub invariant-loop-slot : goal.invariant-loop-slot
invariant-loop-slot l = record {
  slots : length l.slots.items ≡ l.slot;
  room : 64 ≤ vec_capacity l.slots;
  free : length l.free.items ≡ l.slot;
  up_to : FreeUpTo l.slot l.free.items;
}
