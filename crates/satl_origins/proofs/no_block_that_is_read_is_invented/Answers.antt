use Rattle.satl_origins.proofs.Plainly.{only_written_is_read}
use Rattle.satl_origins.proofs.Requested.{only_requested_is_read}
use Rattle.satl_origins.proofs.Reading.{nothing_invented_is_read}
use Rattle.satl_origins.proofs.no_block_that_is_read_is_invented.Goals as goal

pub returns-clause-each : goal.returns-clause-each
returns-clause-each c = nothing_invented_is_read

pub returns-clause-by_writes : goal.returns-clause-by_writes
returns-clause-by_writes c = only_written_is_read

pub returns-clause-by_input : goal.returns-clause-by_input
returns-clause-by_input c = only_requested_is_read
