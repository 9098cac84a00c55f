use Rattle.satl_scenarios.proofs.OrderRuns.{writes_out_of_order}
use Rattle.satl_scenarios.proofs.OrderLaws.{of_arrival_order}
use Rattle.satl_scenarios.proofs.orders.transfers_out_of_order.Goals as goal

pub returns-clause-run : goal.returns-clause-run
returns-clause-run c = writes_out_of_order

pub returns-clause-law : goal.returns-clause-law
returns-clause-law c = of_arrival_order
