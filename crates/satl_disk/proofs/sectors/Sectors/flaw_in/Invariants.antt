use Rattle.std.proofs.Common.{◌≡◌, ◌+◌, map}
use Rattle.std.specs.Prelude.{◌-◌}
use Rattle.satl_base.specs.Cells.{has_flaw, first_set, first_flaw}
use Rattle.satl_disk.specs.Sectors.{cells_of}
use Rattle.satl_disk.proofs.sectors.Sectors.flaw_in.Given as goal

abbrev pub invariant-loop-i : goal.invariant-loop-i
invariant-loop-i l = first_set (map (has_flaw l.which) (cells_of l.self)) (l.lba + l.i) (l.count - l.i) ≡ first_flaw l.which (cells_of l.self) l.lba l.count
