use Rattle.satl_promise.proofs.ServedLaws.{served_in_order}
use Rattle.satl_promise.proofs.transfers_act_in_order_where_an_input_is_served.Goals as goal

pub returns : goal.returns
returns c = served_in_order
