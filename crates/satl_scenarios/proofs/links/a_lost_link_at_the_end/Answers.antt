use Rattle.satl_scenarios.proofs.LinkRuns.{link_lost_at_the_end}
use Rattle.satl_scenarios.proofs.links.a_lost_link_at_the_end.Goals as goal

pub returns : goal.returns
returns c = link_lost_at_the_end
