use Rattle.std.proofs.Common.{ap, ◌∙◌}
use Rattle.satl_drive.proofs.Commands.{left_as_read}
use Rattle.satl_drive.proofs.laws.power_keeps_what_was_written_back.Goals as goal

pub returns-clause-blocks : goal.returns-clause-blocks
returns-clause-blocks c = λ old new settled powered. left_as_read old.cells new.cells settled powered.cells

pub returns-clause-cache : goal.returns-clause-cache
returns-clause-cache c = λ old new none powered. ap (λ d. d.cache) powered.stays ∙ none
