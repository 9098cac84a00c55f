use Rattle.std.proofs.Common.{◌≡◌, ◌+◌, ◌≤◌, length, take}
use Rattle.std.specs.Prelude.{◌-◌}
use Rattle.satl_disk.specs.Sectors.{blocks_put}
use Rattle.satl_disk.proofs.sectors.Sectors.put_blocks.Given as goal

abbrev pub invariant-loop-block : goal.invariant-loop-block
invariant-loop-block l = record {
  size : length l.self ≡ length l.initial.self;
  within : l.i ≤ l.count;
  put : blocks_put l.mask l.cached l.i (l.lba + l.i) (take (l.count - l.i) l.block-iterator) l.self ≡ blocks_put l.mask l.cached 0 l.lba (take l.count l.pages) l.initial.self;
}
