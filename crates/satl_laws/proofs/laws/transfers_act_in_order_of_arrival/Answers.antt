use Rattle.satl_laws.proofs.InOrderRuns.{arrival_order}
use Rattle.satl_laws.proofs.laws.transfers_act_in_order_of_arrival.Goals as goal

pub returns : goal.returns
returns c = arrival_order
