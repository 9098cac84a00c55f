use Rattle.std.proofs.Common.{ap, arith}
use Rattle.satl_drive.proofs.laws.an_unplug_counts_one.Goals as goal

pub returns : goal.returns
returns c = λ old new few unplugged.
    (omega (arith, few, unplugged.unplugs), ap (λ d. d.down) unplugged.cut.0.stays, ap (λ d. d.outstanding) unplugged.cut.0.stays)
