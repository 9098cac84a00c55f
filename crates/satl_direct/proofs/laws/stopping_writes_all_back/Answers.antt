use Rattle.std.proofs.Common.{ap}
use Rattle.satl_direct.proofs.laws.stopping_writes_all_back.Goals as goal

pub returns : goal.returns
returns c = λ s new t reply e. (ap (λ d. d.cells) e.stays, ap (λ d. d.started) e.stays)
