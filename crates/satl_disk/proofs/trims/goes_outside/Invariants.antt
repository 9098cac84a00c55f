use Rattle.std.proofs.Common.{◌≡◌, ◌+◌, ◌≤◌}
use Rattle.std.specs.Prelude.{◌-◌, nat_lt}
use Rattle.std.specs.List.{list_any}
use Rattle.satl_base.specs.declared.block.Range.{Range}
use Rattle.satl_regs.specs.Effects.{payload_ranges}
use Rattle.satl_disk.proofs.trims.goes_outside.Given as goal

abbrev pub invariant-loop-block : goal.invariant-loop-block
invariant-loop-block l = record {
  within : l.i ≤ l.blocks;
  left : list_any (λ (range : Range). nat_lt l.sectors (range.lba + range.count)) (payload_ranges (l.blocks - l.i) l.block-iterator) ≡ list_any (λ (range : Range). nat_lt l.sectors (range.lba + range.count)) (payload_ranges l.blocks l.pages);
}
