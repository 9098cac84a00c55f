use Rattle.satl_scenarios.proofs.PassingRuns.{of_passing_read, of_passing_write, transfers_pass}
use Rattle.satl_scenarios.proofs.orders.transfers_that_pass_where_they_may.Goals as goal

pub returns-clause-run : goal.returns-clause-run
returns-clause-run c = transfers_pass

pub returns-clause-write : goal.returns-clause-write
returns-clause-write c = of_passing_write

pub returns-clause-read : goal.returns-clause-read
returns-clause-read c = of_passing_read
