use Rattle.satl_mode.proofs.Unchanged.{applied_of}
use Rattle.satl_mode.proofs.change.apply.Goals as goal

pub returns-clause-kept : goal.returns-clause-kept
returns-clause-kept c = λ drive modes is. rw (c.unwrap_or.ensures, c.unwrap_or-2.ensures, c.unwrap_or-3.ensures) (applied_of drive _ _ modes is)
