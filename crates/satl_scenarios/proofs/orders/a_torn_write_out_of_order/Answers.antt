use Rattle.satl_scenarios.proofs.OrderRuns.{writes_torn}
use Rattle.satl_scenarios.proofs.OrderLaws.{of_order_under_errors}
use Rattle.satl_scenarios.proofs.orders.a_torn_write_out_of_order.Goals as goal

pub returns-clause-run : goal.returns-clause-run
returns-clause-run c = writes_torn

pub returns-clause-law : goal.returns-clause-law
returns-clause-law c = of_order_under_errors
