use Rattle.std.proofs.Common.{◌≡◌, take}
use Rattle.satl_regs.specs.Trim.{padded_bytes, payload}
use Rattle.satl_regs.proofs.trim.filled.Given as goal

abbrev pub invariant-loop-place : goal.invariant-loop-place
invariant-loop-place l = l.bytes ≡ padded_bytes (payload (take l.place l.entries))
