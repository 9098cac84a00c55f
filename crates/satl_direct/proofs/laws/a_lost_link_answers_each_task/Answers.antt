use Rattle.std.proofs.Common.{ap}
use Rattle.satl_direct.proofs.laws.a_lost_link_answers_each_task.Goals as goal

pub returns : goal.returns
returns c = λ s new answers lost. (lost.answer, ap (λ d. d.tasks) lost.stays, ap (λ d. d.down) lost.stays)
