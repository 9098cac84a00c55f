use Rattle.std.proofs.Common.{◌≡◌, ◌≤◌, ◌++◌, length}
use Rattle.satl_regs.specs.Trim.{trimmed}
use Rattle.satl_regs.proofs.Trims.{rest_of}
use Rattle.satl_regs.proofs.trim.read_trim.Given as goal

abbrev pub invariant-loop-place : goal.invariant-loop-place
invariant-loop-place l = (l.out.items ++ rest_of l.place l.block.bytes ≡ trimmed l.block.bytes) × (length l.out.items ≤ l.place)
