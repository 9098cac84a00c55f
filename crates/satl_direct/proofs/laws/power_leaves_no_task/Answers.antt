use Rattle.std.proofs.Common.{ap}
use Rattle.satl_direct.proofs.laws.power_leaves_no_task.Goals as goal

pub returns : goal.returns
returns c = λ s new answers powered. (powered.none, ap (λ d. d.tasks) powered.stays, ap (λ d. d.attentions) powered.stays)
