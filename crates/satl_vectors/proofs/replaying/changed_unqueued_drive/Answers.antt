use Rattle.std.proofs.Common.{◌≡◌, ◌∙◌, [], None, ap, arith, refl}
use Rattle.satl_disk.specs.Disk.{Disk}
use Rattle.satl_disk.proofs.RewordLemmas.{new_may_reword, unqueued_may_reword}
use Rattle.satl_vectors.proofs.replaying.changed_unqueued_drive.Goals as goal

pub returns : goal.returns
returns c =
    let new = c.in_ok-drive.drive in
    let first = c.set_identify_word.new.self in
    let second = c.set_identify_word-2.new.self in
    let made = c.in_ok-drive.ensures.made in
    let fit = c.in_ok-drive.ensures.fit in
    let is_first = c.set_identify_word.ensures.value in
    let is_second = c.set_identify_word-2.ensures.value in
    let new_queue : new.queue ≡ [] = ap (λ (x : Disk). x.queue) made in
    let first_queue : first.queue ≡ new.queue = ap (λ (x : Disk). x.queue) is_first in
    let second_queue : second.queue ≡ first.queue = ap (λ (x : Disk). x.queue) is_second in
    let new_error : new.error ≡ None = ap (λ (x : Disk). x.error) made in
    let first_error : first.error ≡ new.error = ap (λ (x : Disk). x.error) is_first in
    let second_error : second.error ≡ first.error = ap (λ (x : Disk). x.error) is_second in
    let first_may = new_may_reword 77 0 8192 new (omega arith) made fit refl in
    let first_fit = c.set_identify_word.ensures.fit first_may fit in
    let reworded = unqueued_may_reword 8192 new first made fit is_first in
    let may = reworded c.args.word c.args.value (omega arith) first_fit c.requires in
    record {
      free = record {
        idle = second_queue ∙ (first_queue ∙ new_queue);
        no_error = second_error ∙ (first_error ∙ new_error);
        fit = c.set_identify_word-2.ensures.fit may first_fit;
      };
    }
