use Rattle.satl_origins.proofs.Plainly.{only_written}
use Rattle.satl_origins.proofs.Requested.{only_requested}
use Rattle.satl_origins.proofs.Runs.{nothing_invented}
use Rattle.satl_origins.proofs.no_block_is_invented.Goals as goal

pub returns-clause-each : goal.returns-clause-each
returns-clause-each c = nothing_invented

pub returns-clause-by_writes : goal.returns-clause-by_writes
returns-clause-by_writes c = only_written

pub returns-clause-by_input : goal.returns-clause-by_input
returns-clause-by_input c = only_requested
