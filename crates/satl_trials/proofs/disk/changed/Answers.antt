use Rattle.std.proofs.Common.{arith}
use Rattle.satl_disk.proofs.RewordLemmas.{new_may_reword}
use Rattle.satl_trials.proofs.disk.changed.Goals as goal

pub returns-clause-fit : goal.returns-clause-fit
returns-clause-fit c =
    c.set_identify_word.ensures.fit
    (new_may_reword c.args.word c.args.value 8 c.in_ok-drive.drive (omega arith) c.in_ok-drive.ensures.made c.in_ok-drive.ensures.fit c.requires)
    c.in_ok-drive.ensures.fit
