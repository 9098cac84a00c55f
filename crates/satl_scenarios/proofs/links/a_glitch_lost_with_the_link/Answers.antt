use Rattle.satl_scenarios.proofs.LinkRuns.{glitch_lost_in_turn}
use Rattle.satl_scenarios.proofs.links.a_glitch_lost_with_the_link.Goals as goal

pub returns : goal.returns
returns c = glitch_lost_in_turn
