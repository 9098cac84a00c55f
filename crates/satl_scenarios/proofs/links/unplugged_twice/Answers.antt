use Rattle.satl_scenarios.proofs.LinkRuns.{link_lost_twice}
use Rattle.satl_scenarios.proofs.links.unplugged_twice.Goals as goal

pub returns : goal.returns
returns c = link_lost_twice
