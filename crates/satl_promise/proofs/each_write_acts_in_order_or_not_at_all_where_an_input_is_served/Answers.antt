use Rattle.satl_promise.proofs.ServedLaws.{served_under_errors}
use Rattle.satl_promise.proofs.each_write_acts_in_order_or_not_at_all_where_an_input_is_served.Goals as goal

pub returns : goal.returns
returns c = served_under_errors
