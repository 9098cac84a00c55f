use Rattle.std.proofs.Common.{◌≡◌, ◌∙◌, ap}
use Rattle.satl_disk.specs.Disk.{Disk}
use Rattle.satl_vectors.proofs.fleet.flawed.Goals as goal

pub returns : goal.returns
returns c =
    let free = c.in_ok-drive.ensures.free in
    let exact = c.strike.ensures.exact in
    let queue : c.strike.new.self.queue ≡ c.in_ok-drive.drive.queue = ap (λ (x : Disk). x.queue) exact in
    let error : c.strike.new.self.error ≡ c.in_ok-drive.drive.error = ap (λ (x : Disk). x.error) exact in
    record { free = record { idle = queue ∙ free.idle; no_error = error ∙ free.no_error; fit = c.strike.ensures.fit free.fit } }
