use Rattle.satl_scenarios.proofs.LinkRuns.{link_lost_on_arrival}
use Rattle.satl_scenarios.proofs.links.a_lost_link_on_arrival.Goals as goal

pub returns : goal.returns
returns c = link_lost_on_arrival
