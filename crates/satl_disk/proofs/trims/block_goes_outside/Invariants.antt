use Rattle.std.proofs.Common.{◌≡◌, ◌+◌, drop}
use Rattle.std.specs.Prelude.{nat_lt}
use Rattle.std.specs.List.{list_any}
use Rattle.satl_base.specs.declared.block.Range.{Range}
use Rattle.satl_regs.specs.Trim.{trimmed}
use Rattle.satl_disk.proofs.trims.block_goes_outside.Given as goal

abbrev pub invariant-loop-range : goal.invariant-loop-range
invariant-loop-range l = list_any (λ (range : Range). nat_lt l.sectors (range.lba + range.count)) (drop l.range-index l.range-items) ≡ list_any (λ (range : Range). nat_lt l.sectors (range.lba + range.count)) (trimmed l.block.bytes)
