use Rattle.std.proofs.Common.{sym, ◌∙◌}
use Rattle.satl_drive.proofs.laws.no_tag_is_outstanding_twice.Goals as goal

pub returns : goal.returns
returns c = λ d r slots command pages taken can. absurd cc (sym taken ∙ can.free)
