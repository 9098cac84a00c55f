use Rattle.std.proofs.Common.{ap, ◌∙◌, ◌++◌, [], ◌∷◌}
use Rattle.satl_drive.specs.Queue.{issued_blocks}
use Rattle.satl_drive.proofs.laws.what_is_issued_is_outstanding_last.Goals as goal

pub returns : goal.returns
returns c = λ old new command pages write is.
    ap (λ d. d.outstanding) is.stays ∙ ap (λ kind. old.outstanding ++ record { command = command; blocks = issued_blocks kind pages } ∷ []) write
