use Rattle.satl_scenarios.proofs.LinkRuns.{link_lost_after_an_end}
use Rattle.satl_scenarios.proofs.links.a_lost_link_after_an_end.Goals as goal

pub returns : goal.returns
returns c = link_lost_after_an_end
