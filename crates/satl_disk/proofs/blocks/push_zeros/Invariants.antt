use Rattle.std.proofs.Common.{◌≡◌, ◌≤◌, ◌++◌, vec_capacity, vec_len}
use Rattle.std.specs.Prelude.{◌-◌, replicate}
use Rattle.satl_base.specs.Blocks.{zero_block}
use Rattle.satl_disk.proofs.blocks.push_zeros.Given as goal

abbrev pub invariant-loop : goal.invariant-loop
invariant-loop l = record {
  items : l.kept.items ≡ l.initial.kept.items ++ replicate (l.counter - vec_len l.initial.kept) zero_block;
  size : vec_len l.kept ≡ l.counter;
  capacity : vec_capacity l.initial.kept ≤ vec_capacity l.kept;
}
