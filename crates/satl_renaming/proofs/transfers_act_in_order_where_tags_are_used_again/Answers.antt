use Rattle.satl_renaming.proofs.LawsBack.{arrival_order_used_again}
use Rattle.satl_renaming.proofs.transfers_act_in_order_where_tags_are_used_again.Goals as goal

pub returns : goal.returns
returns c = arrival_order_used_again
