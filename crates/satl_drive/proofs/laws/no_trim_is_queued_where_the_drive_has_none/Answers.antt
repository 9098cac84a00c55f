use Rattle.std.proofs.Common.{sym, ◌∙◌, subst}
use Rattle.satl_drive.specs.Queue.{HasCommand}
use Rattle.satl_drive.proofs.laws.no_trim_is_queued_where_the_drive_has_none.Goals as goal

pub returns : goal.returns
returns c = λ d r slots command pages trim none can.
    absurd cc (sym none ∙ subst (λ kind. HasCommand kind d.identify) trim can.had)
