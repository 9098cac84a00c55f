use Rattle.satl_frame.proofs.Standing.{stands_or_refused, not_both}
use Rattle.satl_frame.proofs.laws.frame_or_refusal.Goals as goal

pub returns-clause-either : goal.returns-clause-either
returns-clause-either c = stands_or_refused

pub returns-clause-not_both : goal.returns-clause-not_both
returns-clause-not_both c = not_both
