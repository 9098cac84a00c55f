use Rattle.std.proofs.Common.{◌∙◌, ap, arith, refl}
use Rattle.satl_disk.specs.Disk.{Disk}
use Rattle.satl_disk.proofs.RewordLemmas.{new_may_reword, unqueued_may_reword}
use Rattle.satl_trials.proofs.disk.unqueued.Goals as goal

pub returns-clause-fit : goal.returns-clause-fit
returns-clause-fit c =
    let made = c.in_ok-drive.ensures.made in
    let new = c.in_ok-drive.ensures.fit in
    let first = c.set_identify_word.ensures.fit (new_may_reword 77 0 8 c.in_ok-drive.drive (omega arith) made new refl) new in
    let may = unqueued_may_reword 8 c.in_ok-drive.drive c.set_identify_word.new.self made new c.set_identify_word.ensures.value c.args.word c.args.value (omega arith) first c.requires in
    c.set_identify_word-2.ensures.fit may first

pub returns-clause-quiet : goal.returns-clause-quiet
returns-clause-quiet c =
    let made = c.in_ok-drive.ensures.made in
    let queue = ap (λ (x : Disk). x.queue) c.set_identify_word-2.ensures.value ∙ (ap (λ (x : Disk). x.queue) c.set_identify_word.ensures.value ∙ ap (λ (x : Disk). x.queue) made) in
    let error = ap (λ (x : Disk). x.error) c.set_identify_word-2.ensures.value ∙ (ap (λ (x : Disk). x.error) c.set_identify_word.ensures.value ∙ ap (λ (x : Disk). x.error) made) in
    (queue, error)
