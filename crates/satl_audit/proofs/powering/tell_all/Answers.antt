use Rattle.std.proofs.Common.{◌∙◌}
use Rattle.satl_audit.proofs.PendingLemmas.{told_all}
use Rattle.satl_audit.proofs.powering.tell_all.Goals as goal

pub returns : goal.returns
returns c = c.powered_on.ensures ∙ told_all c.args.conditions.now c.told-conditions
