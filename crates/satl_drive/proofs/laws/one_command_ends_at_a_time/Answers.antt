use Rattle.std.proofs.Common.{ap, ◌∙◌, ◌+◌, length}
use Rattle.satl_base.specs.Lists.{how_many}
use Rattle.satl_base.proofs.ListsLemmas.{length-remove_first}
use Rattle.satl_drive.specs.Queue.{is_tagged}
use Rattle.satl_drive.proofs.Commands.{found_any, others_counted}
use Rattle.satl_drive.proofs.laws.one_command_ends_at_a_time.Goals as goal

pub returns-clause-was_outstanding : goal.returns-clause-was_outstanding
returns-clause-was_outstanding c = λ tag old new slots taken polled.
    let done = polled.reports in
    found_any (is_tagged tag) old.outstanding done.done done.found

pub returns-clause-others_stay : goal.returns-clause-others_stay
returns-clause-others_stay c = λ tag other old new slots taken polled apart.
    let done = polled.reports in
    ap (λ d. how_many (is_tagged other) d.outstanding) done.stays ∙ others_counted tag other done.done old.outstanding apart done.found

pub returns-clause-one_less : goal.returns-clause-one_less
returns-clause-one_less c = λ tag old new slots taken polled.
    let done = polled.reports in
    ap (λ d. length d.outstanding + 1) done.stays ∙ length-remove_first (is_tagged tag) old.outstanding done.done done.found
