use Rattle.satl_renaming.proofs.LawsBack.{order_under_errors_used_again}
use Rattle.satl_renaming.proofs.each_write_acts_in_order_or_not_at_all_where_tags_are_used_again.Goals as goal

pub returns : goal.returns
returns c = order_under_errors_used_again
