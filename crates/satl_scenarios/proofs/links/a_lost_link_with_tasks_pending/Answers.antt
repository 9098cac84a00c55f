use Rattle.satl_scenarios.proofs.LinkRuns.{link_lost_in_turn}
use Rattle.satl_scenarios.proofs.links.a_lost_link_with_tasks_pending.Goals as goal

pub returns : goal.returns
returns c = link_lost_in_turn
