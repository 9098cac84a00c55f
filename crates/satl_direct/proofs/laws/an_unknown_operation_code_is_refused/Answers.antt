use Rattle.std.proofs.Common.{ap}
use Rattle.satl_cdb.specs.Rows.{found_says}
use Rattle.satl_cdb.specs.Table.{says}
use Rattle.satl_direct.specs.Arrival.{cdb_arrival}
use Rattle.satl_direct.proofs.laws.an_unknown_operation_code_is_refused.Goals as goal

pub returns : goal.returns
unfolding says
returns c = λ s r unknown. ap (λ format. cdb_arrival s r (found_says format r.cdb)) unknown
