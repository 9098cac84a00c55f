use Rattle.std.proofs.Common.{◌≡◌, ◌∙◌, [], None, ap, arith}
use Rattle.satl_disk.specs.Disk.{Disk}
use Rattle.satl_disk.proofs.RewordLemmas.{new_may_reword}
use Rattle.satl_vectors.proofs.replaying.changed_drive.Goals as goal

pub returns : goal.returns
returns c =
    let new = c.in_ok-drive.drive in
    let changed = c.set_identify_word.new.self in
    let made = c.in_ok-drive.ensures.made in
    let fit = c.in_ok-drive.ensures.fit in
    let is = c.set_identify_word.ensures.value in
    let new_queue : new.queue ≡ [] = ap (λ (x : Disk). x.queue) made in
    let queue : changed.queue ≡ new.queue = ap (λ (x : Disk). x.queue) is in
    let new_error : new.error ≡ None = ap (λ (x : Disk). x.error) made in
    let error : changed.error ≡ new.error = ap (λ (x : Disk). x.error) is in
    let may = new_may_reword c.args.word c.args.value 8192 new (omega arith) made fit c.requires in
    record {
      free = record {
        idle = queue ∙ new_queue;
        no_error = error ∙ new_error;
        fit = c.set_identify_word.ensures.fit may fit;
      };
    }
