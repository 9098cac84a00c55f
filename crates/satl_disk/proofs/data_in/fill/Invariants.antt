use Rattle.std.proofs.Common.{◌≡◌, ◌+◌, ◌++◌, length, drop}
use Rattle.std.specs.Prelude.{◌-◌}
use Rattle.satl_base.specs.Cells.{nows}
use Rattle.satl_disk.specs.Sectors.{cells_of}
use Rattle.satl_disk.proofs.data_in.fill.Given as goal

abbrev pub invariant-loop-i : goal.invariant-loop-i
invariant-loop-i l = record {
  filled : l.filled ≡ nows (cells_of l.sectors) (l.lba + (l.count - l.i)) l.i ++ drop l.count l.fn.pages;
  left : length l.blank + l.i ≡ l.count;
  size : length l.filled + l.count ≡ length l.fn.pages + l.i;
}
