use Rattle.satl_direct.proofs.Steps.{turn_idle}
use Rattle.satl_direct.proofs.laws.a_turn_without_a_task_does_nothing.Goals as goal

pub returns : goal.returns
returns c = turn_idle
