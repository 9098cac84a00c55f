use Rattle.std.proofs.Common.{◌≤◌, length}
use Rattle.satl_cdb.proofs.DescriptorSteps.{IsAt}
use Rattle.satl_cdb.proofs.unmap.ranges_up_to.Given as goal

abbrev pub invariant-loop-i : goal.invariant-loop-i
invariant-loop-i l = record {
  at : IsAt l.capacity l.list l.count l.i l.sum l.ranges.items;
  few : l.sum ≤ 65536;
  room : length l.ranges.items ≤ l.i;
}
