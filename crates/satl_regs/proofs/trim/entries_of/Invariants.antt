use Rattle.std.proofs.Common.{◌≡◌, take}
use Rattle.satl_regs.specs.Trim.{entries}
use Rattle.satl_regs.proofs.trim.entries_of.Given as goal

abbrev pub invariant-loop-range : goal.invariant-loop-range
invariant-loop-range l = l.out.items ≡ entries (take l.range-index l.ranges)
