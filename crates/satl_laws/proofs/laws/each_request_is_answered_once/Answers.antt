use Rattle.std.proofs.Common.{ap, arith}
use Rattle.satl_base.specs.Lists.{how_many}
use Rattle.satl_direct.specs.Device.{is_called}
use Rattle.satl_laws.proofs.Counts.{run_counts}
use Rattle.satl_laws.proofs.laws.each_request_is_answered_once.Goals as goal

pub returns : goal.returns
returns c = λ first last events groups losses deep run nexus tag empty.
    omega (arith, run_counts nexus tag run, ap (how_many (is_called nexus tag)) empty)
