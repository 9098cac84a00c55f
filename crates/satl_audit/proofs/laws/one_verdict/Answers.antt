use Rattle.satl_audit.proofs.OneVerdict.{one_verdict}
use Rattle.satl_audit.proofs.laws.one_verdict.Goals as goal

pub returns : goal.returns
returns c = one_verdict
