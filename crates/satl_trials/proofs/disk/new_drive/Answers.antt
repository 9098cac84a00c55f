use Rattle.std.proofs.Common.{ap}
use Rattle.satl_disk.specs.Disk.{Disk}
use Rattle.satl_trials.proofs.disk.new_drive.Goals as goal

pub returns : goal.returns
returns c =
    let made = c.in_ok-drive.ensures.made in
    record { quiet = (ap (λ (x : Disk). x.queue) made, ap (λ (x : Disk). x.error) made) }
