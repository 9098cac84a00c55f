use Rattle.std.proofs.Common.{ap}
use Rattle.satl_disk.specs.Disk.{Disk}
use Rattle.satl_vectors.proofs.replaying.fresh_drive.Goals as goal

pub returns : goal.returns
returns c =
    let made = c.in_ok-drive.ensures.made in
    record {
      free = record {
        idle = ap (λ (x : Disk). x.queue) made;
        no_error = ap (λ (x : Disk). x.error) made;
        fit = c.in_ok-drive.ensures.fit;
      };
    }
