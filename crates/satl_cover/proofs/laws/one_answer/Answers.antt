use Rattle.satl_cover.proofs.OneAnswer.{one_answer}
use Rattle.satl_cover.proofs.laws.one_answer.Goals as goal

pub returns : goal.returns
returns c = one_answer
