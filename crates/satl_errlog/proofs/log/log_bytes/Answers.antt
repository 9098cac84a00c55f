use Rattle.std.proofs.Common.{◌∙◌, ap, List, ℕ}
use Rattle.satl_base.specs.Identify.{checksum}
use Rattle.satl_errlog.specs.Log.{log_says}
use Rattle.satl_errlog.proofs.Logs.{checksum-log, log_back}
use Rattle.satl_errlog.proofs.log.log_bytes.Goals as goal

pub returns-clause-sum : goal.returns-clause-sum
returns-clause-sum c = ap checksum c.summed.ensures.bytes ∙ checksum-log c.args.error.now

pub returns-clause-again : goal.returns-clause-again
returns-clause-again c tag lba = ap (λ (log : List ℕ). log_says log) c.summed.ensures.bytes ∙ log_back c.args.error.now tag lba c.summed.ensures.fits
