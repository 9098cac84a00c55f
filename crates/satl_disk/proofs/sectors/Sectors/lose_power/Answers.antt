use Rattle.std.proofs.Common.{arith, ◌<◌, length}
use Rattle.satl_disk.proofs.SectorsLemmas.{bytes_step, left_step}
use Rattle.satl_disk.proofs.sectors.Sectors.lose_power.Goals as goal

pub loop-place-preserved : goal.loop-place-preserved
loop-place-preserved c =
    let l = c.loop-place in
    let within : l.place < length l.self = omega arith in
    record {
      size = omega arith;
      left = rw c.lose_at.ensures.ring (left_step l.self c.lose_at.new.self l.place l.ring.items within c.lose_at.ensures.sector _ l.invariant.left);
      bytes = rw c.lose_at.ensures.ring (bytes_step l.self c.lose_at.new.self l.place l.ring.items within c.lose_at.ensures.sector _ l.invariant.bytes);
      capacity = rw c.lose_at.ensures.ring l.invariant.capacity;
    }
