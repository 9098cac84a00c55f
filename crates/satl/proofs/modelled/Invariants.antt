use Rattle.std.proofs.Common.{◌≡◌, map, vec_len}
use Rattle.std.specs.List.{AllByRecursion}
use Rattle.satl_disk.specs.Disk.{state_of}
use Rattle.satl_barrier.specs.Leaving.{IsFree}
use Rattle.satl.proofs.modelled.Given as goal

abbrev pub invariant-loop : goal.invariant-loop
invariant-loop l = record {
  count : vec_len l.drives ≡ l.counter;
  free : AllByRecursion IsFree (map state_of l.drives.items);
}
