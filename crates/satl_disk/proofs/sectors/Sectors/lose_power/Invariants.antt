use Rattle.std.proofs.Common.{◌≡◌, ◌++◌, drop, length, take}
use Rattle.satl_disk.specs.Sectors.{all_left, bytes_left}
use Rattle.satl_disk.proofs.sectors.Sectors.lose_power.Given as goal

abbrev pub invariant-loop-place : goal.invariant-loop-place
invariant-loop-place l = record {
  size : length l.self ≡ length l.fn.self;
  left : take l.place l.self ++ all_left (drop l.place l.self) l.ring.items ≡ all_left l.fn.self l.fn.ring.items;
  bytes : bytes_left (drop l.place l.self) l.ring.items ≡ bytes_left l.fn.self l.fn.ring.items;
  capacity : l.ring.capacity ≡ l.fn.ring.capacity;
}
