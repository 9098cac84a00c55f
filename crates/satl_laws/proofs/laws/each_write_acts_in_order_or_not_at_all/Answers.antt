use Rattle.satl_laws.proofs.InOrderRuns.{order_under_errors}
use Rattle.satl_laws.proofs.laws.each_write_acts_in_order_or_not_at_all.Goals as goal

pub returns : goal.returns
returns c = order_under_errors
